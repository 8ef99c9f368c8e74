-- What follows: how long a record's bytes are, and that a record whose numbers fit and whose powers are finite is read back as it was.
use Rattle.std.specs.Prelude.{None, Some}
use mathlib.Core.Path.{◌≡◌, refl, ap, ◌∙◌}
use mathlib.Core.Bool.{Bool, true, false}
use mathlib.Core.List.{List, [], ◌∷◌, ◌++◌, append-nil}
use Prim.Native.Nat.{ℕ, ◌+◌}
use native.Mathlib.Nat.{mod-eq_of_lt}
use native.Mathlib.Omega.{arith}
use borrow.Author.Tests.{eqb-true}
use lib.Dec.{eqb}
use lib.ListN.{length, drop, length-append, drop_of_length-le}
use Rattle.byte_numbers.specs.Number.{bytes_of}
use Rattle.byte_numbers.specs.Place.{byte_at, number_at, written}
use Rattle.byte_numbers.proofs.PlaceLaws.{number_at-front, written-fits}
use Rattle.wire_values.specs.Clock.{date_time_bytes}
use Rattle.wire_values.specs.Mask.{mask_of, mask_bytes}
use Rattle.wire_values.proofs.MaskLaws.{mask_of-bytes}
use Rattle.wire_values.specs.Power.{power_bytes, phases_bytes, phases_of}
use Rattle.wire_values.proofs.PowerLaws.{FinitePhases, phases_of-bytes}
use Rattle.wire_values.specs.Telemetry.{telemetry_of, telemetry_bytes}
use Rattle.wire_values.proofs.TelemetryLaws.{telemetry_of-bytes}
use Rattle.meter_record.specs.Widths.{FitsRecord}
use Rattle.meter_record.specs.declared.record.Record.{Record}
use Rattle.meter_record_bytes.specs.Level.{level_byte, level_of}
use Rattle.meter_record_bytes.proofs.LevelLaws.{level-back}
use Rattle.meter_record_bytes.specs.Time.{time_bytes, time_of, switch_bytes}
use Rattle.meter_record_bytes.proofs.TimeLaws.{time-back}
use Rattle.meter_record_bytes.specs.Record.{record_size, access_bytes, setting_bytes, bench_bytes, record_bytes, record_with, together, record_in, record_of}

-- ---- lengths

-- address, protection and passwords are the first 19 bytes
pub length-access : (r : Record) → length (access_bytes r) ≡ 19
unfolding access_bytes bytes_of
length-access r = refl

-- time, telemetry and display mask are the next 35
pub length-setting : (r : Record) → length (setting_bytes r) ≡ 35
unfolding setting_bytes time_bytes switch_bytes date_time_bytes telemetry_bytes mask_bytes bytes_of
length-setting r = refl

-- and what the bench sets, with the next place and the interval, the last 35
pub length-bench : (r : Record) → length (bench_bytes r) ≡ 35
unfolding bench_bytes power_bytes bytes_of
length-bench r = refl

-- together they are the 89 bytes of a record
pub length-record : (r : Record) → length (record_bytes r) ≡ record_size
unfolding record_bytes
length-record r = simp (length-append, length-access, length-setting, length-bench)

-- written over as many bytes, they are all that there is
pub record-whole : (s : List ℕ) (r : Record) → length s ≡ record_size → written s 0 (record_bytes r) ≡ record_bytes r
record-whole s r h =
    let n = length-record r in
    written-fits s 0 (record_bytes r) (omega arith)
    ∙ ap (λ (k : ℕ). record_bytes r ++ drop (0 + k) s) n
    ∙ ap (λ (l : List ℕ). record_bytes r ++ l) (drop_of_length-le s {i = record_size} (omega arith))
    ∙ append-nil (record_bytes r)

-- bytes that are read as a record are as many
pub read-size : (s : List ℕ) (r : Record) → record_of s ≡ Some r → length s ≡ record_size
unfolding record_of
read-size s r e = go (eqb (length s) record_size) refl
  where
    go : (b : Bool) → eqb (length s) record_size ≡ b → length s ≡ record_size
    go true q = eqb-true (length s) record_size q
    go false q =
        let refused : record_of s ≡ None = rw q in
        let never : ◌≡◌ {A = ℕ} 0 1 = cc in
        omega arith

-- ---- there and back

-- the parts that stand from a byte on
module _ (r : Record) where
  from-time : drop 19 (record_bytes r) ≡ time_bytes r.time ++ (telemetry_bytes r.telemetry ++ (mask_bytes r.mask ++ bench_bytes r))
  unfolding record_bytes access_bytes setting_bytes time_bytes switch_bytes date_time_bytes telemetry_bytes mask_bytes bytes_of
  from-time = refl

  from-telemetry : drop 40 (record_bytes r) ≡ telemetry_bytes r.telemetry ++ (mask_bytes r.mask ++ bench_bytes r)
  unfolding record_bytes access_bytes setting_bytes time_bytes switch_bytes date_time_bytes telemetry_bytes mask_bytes bytes_of
  from-telemetry = refl

  from-mask : drop 48 (record_bytes r) ≡ mask_bytes r.mask ++ bench_bytes r
  unfolding record_bytes access_bytes setting_bytes time_bytes switch_bytes date_time_bytes telemetry_bytes mask_bytes bytes_of
  from-mask = refl

  abbrev ratios-at-end : List ℕ
  ratios-at-end = bytes_of 4 r.ratios.ki ++ bytes_of 4 r.ratios.ku

  from-active : drop 54 (record_bytes r)
      ≡ phases_bytes r.active ++ (phases_bytes r.reactive ++ (r.minutes ∷ bytes_of 2 r.next ++ ratios-at-end))
  unfolding record_bytes access_bytes setting_bytes time_bytes switch_bytes date_time_bytes telemetry_bytes mask_bytes bench_bytes bytes_of
  from-active = refl

  from-reactive : drop 66 (record_bytes r) ≡ phases_bytes r.reactive ++ (r.minutes ∷ bytes_of 2 r.next ++ ratios-at-end)
  unfolding record_bytes access_bytes setting_bytes time_bytes switch_bytes date_time_bytes telemetry_bytes mask_bytes bench_bytes power_bytes bytes_of
  from-reactive = refl

  main-there : number_at (record_bytes r) 3 8 ≡ number_at (bytes_of 8 r.passwords.main.0 ++ []) 0 8
  unfolding record_bytes access_bytes bytes_of number_at
  main-there = refl

  auxiliary-there : number_at (record_bytes r) 11 8 ≡ number_at (bytes_of 8 r.passwords.auxiliary.0 ++ []) 0 8
  unfolding record_bytes access_bytes bytes_of number_at
  auxiliary-there = refl

  next-there : number_at (record_bytes r) 79 2 ≡ number_at (bytes_of 2 r.next ++ []) 0 2
  unfolding record_bytes access_bytes setting_bytes time_bytes switch_bytes date_time_bytes telemetry_bytes mask_bytes bench_bytes power_bytes bytes_of number_at
  next-there = refl

  ki-there : number_at (record_bytes r) 81 4 ≡ number_at (bytes_of 4 r.ratios.ki ++ []) 0 4
  unfolding record_bytes access_bytes setting_bytes time_bytes switch_bytes date_time_bytes telemetry_bytes mask_bytes bench_bytes power_bytes bytes_of number_at
  ki-there = refl

  ku-there : number_at (record_bytes r) 85 4 ≡ number_at (bytes_of 4 r.ratios.ku ++ []) 0 4
  unfolding record_bytes access_bytes setting_bytes time_bytes switch_bytes date_time_bytes telemetry_bytes mask_bytes bench_bytes power_bytes bytes_of number_at
  ku-there = refl

  minutes-there : byte_at (record_bytes r) 78 ≡ r.minutes
  unfolding record_bytes access_bytes setting_bytes time_bytes switch_bytes date_time_bytes telemetry_bytes mask_bytes bench_bytes power_bytes bytes_of
  minutes-there = refl

  front-there : (byte_at (record_bytes r) 0 ≡ r.address) × (byte_at (record_bytes r) 1 ≡ level_byte r.protection.level) × (byte_at (record_bytes r) 2 ≡ r.protection.left)
  unfolding record_bytes access_bytes
  front-there = (refl, refl, refl)

  -- a record that is kept as bytes between two calls is the same in the second
  pub record-back : FitsRecord r → FinitePhases r.active → FinitePhases r.reactive → record_of (record_bytes r) ≡ Some r
  unfolding record_of record_in together record_with
  record-back f a p =
      let bs = record_bytes r in
      let level-read : level_of (byte_at bs 1) ≡ Some r.protection.level = rw front-there.1 (level-back r.protection.level) in
      let time-read : time_of (drop 19 bs) ≡ Some r.time = rw from-time (time-back r.time _) in
      let active_read : phases_of (drop 54 bs) ≡ Some r.active = rw from-active (phases_of-bytes r.active _ f.active a) in
      let reactive_read : phases_of (drop 66 bs) ≡ Some r.reactive = rw from-reactive (phases_of-bytes r.reactive _ f.reactive p) in
      let telemetry-read : telemetry_of (drop 40 bs) ≡ r.telemetry = rw from-telemetry (telemetry_of-bytes r.telemetry _ f.telemetry) in
      let mask-read : mask_of (drop 48 bs) ≡ r.mask = rw from-mask (mask_of-bytes r.mask _ f.parameters) in
      let main-read : number_at bs 3 8 ≡ r.passwords.main.0 = main-there ∙ number_at-front 8 r.passwords.main.0 [] ∙ mod-eq_of_lt f.main in
      let auxiliary-read : number_at bs 11 8 ≡ r.passwords.auxiliary.0 =
      auxiliary-there ∙ number_at-front 8 r.passwords.auxiliary.0 [] ∙ mod-eq_of_lt f.auxiliary in
      let next-read : number_at bs 79 2 ≡ r.next = next-there ∙ number_at-front 2 r.next [] ∙ mod-eq_of_lt f.next in
      let ki-read : number_at bs 81 4 ≡ r.ratios.ki = ki-there ∙ number_at-front 4 r.ratios.ki [] ∙ mod-eq_of_lt f.ki in
      let ku-read : number_at bs 85 4 ≡ r.ratios.ku = ku-there ∙ number_at-front 4 r.ratios.ku [] ∙ mod-eq_of_lt f.ku in
      simp (
        length-record r,
        level-read,
        time-read,
        active_read,
        reactive_read,
        telemetry-read,
        mask-read,
        main-read,
        auxiliary-read,
        next-read,
        ki-read,
        ku-read,
        minutes-there,
        front-there.0,
        front-there.2,
      )

-- what a call puts over the bytes that it read, the next call reads
pub record-renewed : (s : List ℕ) (r after : Record) → record_of s ≡ Some r
    → FitsRecord after → FinitePhases after.active → FinitePhases after.reactive → record_of (written s 0 (record_bytes after)) ≡ Some after
record-renewed s r after e f a p = ap record_of (record-whole s after (read-size s r e)) ∙ record-back after f a p
