-- The ranges of a record, of which document 01's 28 says "meter record outside its ranges". Source: document 01, "The bench meter's record".
use Rattle.std.specs.Prelude.{Bool, ◌&&◌, ◌*◌, leb, ltb}
use Rattle.wire_values.specs.declared.telemetry.Telemetry.{Telemetry}
use Rattle.meter_clock.specs.Protection.{is_protection}
use Rattle.meter_clock.specs.Season.{is_fitting}
use Rattle.slots.specs.Day.{is_minutes}
use Rattle.meter_store.specs.Store.{places}
use Rattle.meter_record.specs.Power.{are_powers}
use Rattle.meter_record.specs.Ratios.{are_ratios}
use Rattle.meter_record.specs.declared.record.Record.{Record}

-- "A change needs K x Ke from 40,000 to 5,000,000"
unfoldable pub is_telemetry : Telemetry → Bool
is_telemetry t = leb 40000 (t.k * t.ke) && leb (t.k * t.ke) 5000000

-- the level and its seconds, the clock and its seasons, the telemetry
unfoldable pub settings_right : Record → Bool
settings_right r = is_protection r.protection && is_fitting r.time && is_telemetry r.telemetry

-- the interval, the store's next place, the powers
unfoldable pub bench_right : Record → Bool
bench_right r = is_minutes r.minutes && ltb r.next places && are_powers r.active && are_powers r.reactive

-- "Address 1..255", and the rest. A password, the mask and the reserve may be any bytes.
unfoldable pub is_within : Record → Bool
is_within r = leb 1 r.address && settings_right r && bench_right r && are_ratios r.ratios
