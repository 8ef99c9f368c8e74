-- The bench meter's record as 89 bytes. Source: document 01, "The bench meter's record"; the order is this project's own. Numbers of
-- several bytes stand lowest byte first, figures as the wire has them.
use Rattle.std.specs.Prelude.{cond, List, [], ◌∷◌, ◌++◌, ℕ, eqb, length, drop, None, Option, Some}
use Rattle.byte_numbers.specs.Number.{bytes_of}
use Rattle.byte_numbers.specs.Place.{byte_at, number_at}
use Rattle.wire_values.specs.Mask.{mask_of, mask_bytes}
use Rattle.wire_values.specs.Power.{phases_bytes, phases_of}
use Rattle.wire_values.specs.Telemetry.{telemetry_of, telemetry_bytes}
use Rattle.wire_values.specs.declared.power.Phases.{Phases}
use Rattle.meter_record.specs.declared.record.Passwords.{Passwords}
use Rattle.meter_record.specs.declared.record.Record.{Record}
use Rattle.meter_clock.specs.declared.protection.Level.{Level}
use Rattle.meter_clock.specs.declared.season.Time.{Time}
use Rattle.meter_record_bytes.specs.Level.{level_byte, level_of}
use Rattle.meter_record_bytes.specs.Time.{time_bytes, time_of}

abbrev pub record_size : ℕ
record_size = 89

-- from byte 0: address, level, seconds left, and the passwords, main and auxiliary
unfoldable pub access_bytes : Record → List ℕ
access_bytes r =
    (r.address ∷ level_byte r.protection.level ∷ r.protection.left ∷ [])
    ++ (bytes_of 8 r.passwords.main.0 ++ bytes_of 8 r.passwords.auxiliary.0)

-- from byte 19: the clock and its seasons, the telemetry, the mask
unfoldable pub setting_bytes : Record → List ℕ
setting_bytes r = time_bytes r.time ++ (telemetry_bytes r.telemetry ++ mask_bytes r.mask)

-- from byte 54: the powers, active and reactive, the interval, the store's next place, and from byte 81 the ratios, KI and KU
unfoldable pub bench_bytes : Record → List ℕ
bench_bytes r =
    phases_bytes r.active
    ++ (phases_bytes r.reactive ++ ((r.minutes ∷ []) ++ (bytes_of 2 r.next ++ (bytes_of 4 r.ratios.ki ++ bytes_of 4 r.ratios.ku))))

unfoldable pub record_bytes : Record → List ℕ
record_bytes r = access_bytes r ++ (setting_bytes r ++ bench_bytes r)

abbrev pub passwords_in : List ℕ → Passwords
passwords_in bs = record { main = record { 0 = number_at bs 3 8 }; auxiliary = record { 0 = number_at bs 11 8 } }

-- the record of a level, a time and powers that were read, and of the other bytes
unfoldable pub record_with : List ℕ → Level → Time → Phases → Phases → Record
record_with bs l t a p = record {
  address = byte_at bs 0;
  protection = record { level = l; left = byte_at bs 2 };
  passwords = passwords_in bs;
  time = t;
  telemetry = telemetry_of (drop 40 bs);
  mask = mask_of (drop 48 bs);
  active = a;
  reactive = p;
  minutes = byte_at bs 78;
  next = number_at bs 79 2;
  ratios = record { ki = number_at bs 81 4; ku = number_at bs 85 4 };
}

-- the parts that may be unreadable: all of them, or no record is read
unfoldable pub together : List ℕ → Option Level → Option Time → Option Phases → Option Phases → Option Record
together bs None t a p = None
together bs (Some l) None a p = None
together bs (Some l) (Some t) None p = None
together bs (Some l) (Some t) (Some a) None = None
together bs (Some l) (Some t) (Some a) (Some p) = Some (record_with bs l t a p)

unfoldable pub record_in : List ℕ → Option Record
record_in bs = together bs (level_of (byte_at bs 1)) (time_of (drop 19 bs)) (phases_of (drop 54 bs)) (phases_of (drop 66 bs))

-- bytes of another length are no record
unfoldable pub record_of : List ℕ → Option Record
record_of bs = cond (eqb (length bs) record_size) (record_in bs) None
