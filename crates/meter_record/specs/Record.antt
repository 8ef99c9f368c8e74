-- The bench's own calls on a record. Source: document 01, "The bench meter's record".
use Rattle.refusal.specs.Number.{answer_number}
use Rattle.meter_record.specs.declared.record.RecordError.{RecordError}
use Rattle.std.specs.Prelude.{cond, ℕ, eqb, Err, Ok, Result}
use Rattle.std.specs.Float.{binary32}
use Rattle.std.specs.Float.Ieee.{of_bits}
use Rattle.calendar.specs.declared.time.DateTime.{DateTime}
use Rattle.wire_values.specs.declared.telemetry.Telemetry.{Telemetry}
use Rattle.wire_values.specs.declared.power.Phases.{Phases}
use Rattle.meter_clock.specs.Protection.{shut, quiet_second}
use Rattle.meter_clock.specs.Season.{next_time}
use Rattle.meter_clock.specs.declared.season.Season.{Season}
use Rattle.meter_clock.specs.declared.season.SwitchDate.TheVariants.{Automatic}
use Rattle.meter_record.specs.Power.{are_powers}
use Rattle.meter_record.specs.Ranges.{is_within}
use Rattle.meter_record.specs.Ratios.{are_ratios}
use Rattle.meter_record.specs.declared.record.Ratios.{Ratios}
use Rattle.meter_record.specs.declared.record.Record.{Record}
use Rattle.meter_record.specs.declared.record.RecordError.TheVariants.{OutOfRange, Unsound}

-- no power
abbrev pub no_powers : Phases
no_powers = record { a = of_bits binary32 0; b = of_bits binary32 0; c = of_bits binary32 0 }

-- a meter from the factory: "from the factory eight bytes 30 hex"; the mask shows all (002, section 4.12, page 17); KI and KU "at first 1 each"
unfoldable pub fresh : ℕ → ℕ → Telemetry → DateTime → Season → Record
fresh address minutes telemetry clock season = record {
  address = address;
  protection = shut;
  passwords = record { main = record { 0 = 0x3030303030303030 }; auxiliary = record { 0 = 0x3030303030303030 } };
  time = record { clock = clock; season = season; summer = Automatic; winter = Automatic };
  telemetry = telemetry;
  mask = record { parameters = 0xFFFFFFFF; tariffs = 0xFF; directions = 0xFF };
  active = no_powers;
  reactive = no_powers;
  minutes = minutes;
  next = 0;
  ratios = record { ki = 1; ku = 1 };
}

-- making a record: 27 for a "bench setting .. out of range"
unfoldable pub made : ℕ → ℕ → Telemetry → DateTime → Season → Result Record RecordError
unfolding fresh
made address minutes telemetry clock season =
    let r = fresh address minutes telemetry clock season in
    cond (is_within r) (Ok r) (Err OutOfRange)

-- a second later: "Clock", "Seasons" and "Protection"
unfoldable pub later : Record → Record
later r = record {
  address = r.address;
  protection = quiet_second r.protection;
  passwords = r.passwords;
  time = next_time r.time;
  telemetry = r.telemetry;
  mask = r.mask;
  active = r.active;
  reactive = r.reactive;
  minutes = r.minutes;
  next = r.next;
  ratios = r.ratios;
}

-- "One call is one second."
unfoldable pub second_of : Record → Result Record RecordError
unfolding later
second_of r = cond (is_within r) (Ok (later r)) (Err Unsound)

-- the record with other powers, active and reactive
abbrev pub with_powers : Record → Phases → Phases → Record
with_powers r active reactive = record {
  address = r.address;
  protection = r.protection;
  passwords = r.passwords;
  time = r.time;
  telemetry = r.telemetry;
  mask = r.mask;
  active = active;
  reactive = reactive;
  minutes = r.minutes;
  next = r.next;
  ratios = r.ratios;
}

-- parameter 8 is the active power and 9 the reactive one; no other is a power
unfoldable pub powers_set : Record → ℕ → Phases → Result Record RecordError
powers_set r n p =
    cond (eqb n 8) (Ok (with_powers r p r.reactive)) (cond (eqb n 9) (Ok (with_powers r r.active p)) (Err OutOfRange))

-- setting powers: 28, then 27
unfoldable pub set_powers : Record → ℕ → Phases → Result Record RecordError
set_powers r n p = cond (is_within r) (cond (are_powers p) (powers_set r n p) (Err OutOfRange)) (Err Unsound)

-- the record with other ratios
abbrev pub with_ratios : Record → Ratios → Record
with_ratios r k = record {
  address = r.address;
  protection = r.protection;
  passwords = r.passwords;
  time = r.time;
  telemetry = r.telemetry;
  mask = r.mask;
  active = r.active;
  reactive = r.reactive;
  minutes = r.minutes;
  next = r.next;
  ratios = k;
}

-- setting both ratios: 28, then 27
unfoldable pub set_ratios : Record → Ratios → Result Record RecordError
set_ratios r k = cond (is_within r) (cond (are_ratios k) (Ok (with_ratios r k)) (Err OutOfRange)) (Err Unsound)

-- document 01's numbers
abbrev pub error_number : RecordError → ℕ
error_number OutOfRange = 27
error_number Unsound = 28

abbrev pub number_of : Result Record RecordError → ℕ
number_of = answer_number error_number
