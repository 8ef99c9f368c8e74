-- A record with one thing changed. Source: document 01, "The bench meter's record".
use Rattle.std.specs.Prelude.{ℕ}
use Rattle.calendar.specs.declared.time.DateTime.{DateTime}
use Rattle.wire_values.specs.declared.mask.DisplayMask.{DisplayMask}
use Rattle.wire_values.specs.declared.telemetry.Telemetry.{Telemetry}
use Rattle.meter_clock.specs.declared.protection.Protection.{Protection}
use Rattle.meter_clock.specs.declared.season.SwitchDate.{SwitchDate}
use Rattle.meter_clock.specs.declared.season.Time.{Time}
use Rattle.meter_record.specs.declared.record.Passwords.{Passwords}
use Rattle.meter_record.specs.declared.record.Record.{Record}

-- a record with what a command can change, and the rest as it was
abbrev pub remade : Record → ℕ → Protection → Passwords → Time → Telemetry → DisplayMask → ℕ → Record
remade r address protection passwords time telemetry mask next = record {
  address = address;
  protection = protection;
  passwords = passwords;
  time = time;
  telemetry = telemetry;
  mask = mask;
  active = r.active;
  reactive = r.reactive;
  minutes = r.minutes;
  next = next;
  ratios = r.ratios;
}

abbrev pub with_address : Record → ℕ → Record
with_address r x = remade r x r.protection r.passwords r.time r.telemetry r.mask r.next

abbrev pub with_protection : Record → Protection → Record
with_protection r x = remade r r.address x r.passwords r.time r.telemetry r.mask r.next

abbrev pub with_passwords : Record → Passwords → Record
with_passwords r x = remade r r.address r.protection x r.time r.telemetry r.mask r.next

abbrev pub with_time : Record → Time → Record
with_time r x = remade r r.address r.protection r.passwords x r.telemetry r.mask r.next

abbrev pub with_telemetry : Record → Telemetry → Record
with_telemetry r x = remade r r.address r.protection r.passwords r.time x r.mask r.next

abbrev pub with_mask : Record → DisplayMask → Record
with_mask r x = remade r r.address r.protection r.passwords r.time r.telemetry x r.next

abbrev pub with_next : Record → ℕ → Record
with_next r x = remade r r.address r.protection r.passwords r.time r.telemetry r.mask x

-- "Writing the clock leaves the season"; "A date written by hand replaces the automatic one and stays"
abbrev pub with_clock : Record → DateTime → Record
with_clock r x =
    with_time r (record { clock = x; season = r.time.season; summer = r.time.summer; winter = r.time.winter })

abbrev pub with_summer : Record → SwitchDate → Record
with_summer r x = with_time r (record { clock = r.time.clock; season = r.time.season; summer = x; winter = r.time.winter })

abbrev pub with_winter : Record → SwitchDate → Record
with_winter r x = with_time r (record { clock = r.time.clock; season = r.time.season; summer = r.time.summer; winter = x })
