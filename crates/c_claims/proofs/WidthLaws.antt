-- Every call of the meter keeps the widths of a record's numbers, so that its bytes are read as the record that they were made of.
use mathlib.Core.Path.{◌≡◌, ap, subst, ◌∙◌}
use mathlib.Core.Bool.{true}
use mathlib.Core.List.{List}
use Prim.Native.Nat.{ℕ, ◌+◌, ◌*◌, ◌^◌, ◌<◌}
use native.Mathlib.Omega.{arith}
use borrow.Author.Tests.{ltb-true}
use lib.Dec.{T, eqb}
use lib.Ieee.{binary32, fits}
use lib.Ieee.Scale.{finite}
use lib.Ieee.Bits.{of_bits-fits}
use lib.ListN.{length, drop}
use lib.Seq.{get_or-drop}
use Rattle.std.specs.Prelude.{Float, None, Option, Some}
use Rattle.test_laws.proofs.Test.{either}
use Rattle.byte_numbers.specs.Number.{Bytes}
use Rattle.byte_numbers.specs.Place.{number_at, written}
use Rattle.byte_numbers.proofs.PlaceLaws.{number_at-split, number_at-one}
use Rattle.calendar.specs.declared.time.DateTime.{DateTime}
use Rattle.wire_values.specs.Mask.{mask_of}
use Rattle.wire_values.specs.Power.{float_at, power_of, together as three, phases_of, FitsPhases}
use Rattle.wire_values.specs.Telemetry.{FitsTelemetry, telemetry_of}
use Rattle.wire_values.specs.declared.mask.DisplayMask.{DisplayMask}
use Rattle.wire_values.specs.declared.power.Phases.{Phases}
use Rattle.wire_values.specs.declared.telemetry.Telemetry.{Telemetry}
use Rattle.wire_values.proofs.PowerLaws.{FinitePhases}
use Rattle.parameters.specs.Table.{code_of}
use Rattle.parameters.specs.declared.code.Function.{Function}
use Rattle.parameters.specs.declared.code.Function.TheVariants as function
use Rattle.parameters.specs.declared.code.Parameter.{Parameter}
use Rattle.meter_clock.specs.declared.protection.Protection.{Protection}
use Rattle.meter_clock.specs.declared.season.Season.{Season}
use Rattle.meter_clock.specs.declared.season.Time.{Time}
use Rattle.meter_clock.specs.declared.protection.Level.{Level}
use Rattle.meter_record.specs.Power.{are_powers}
use Rattle.meter_record.specs.Ranges.{is_within}
use Rattle.meter_record.specs.Record.{fresh, later, with_powers, with_ratios}
use Rattle.meter_record.specs.Widths.{FitsRecord}
use Rattle.meter_record.specs.With.{remade, with_protection, with_time, with_next}
use Rattle.meter_record.specs.declared.record.Passwords.{Passwords}
use Rattle.meter_record.specs.declared.record.Record.{Record}
use Rattle.meter_record.proofs.PowerLaws.{bounds-finite, powers-bounds}
use Rattle.meter_record.proofs.RangeLaws.{within}
use Rattle.meter_record_bytes.specs.Record.{record_size, record_bytes, record_with, together, record_in, record_of}
use Rattle.meter_record_bytes.proofs.RecordLaws.{record-whole, record-back, record-renewed}
use Rattle.meter_command.specs.Change.{passwords_after, changed_to, zeroed_to}
use Rattle.meter_command.proofs.KeepLaws.{zeroed}
use Rattle.meter_command.specs.Command.{function_in, parameter_in, detail_in, data_in, command_of}
use Rattle.meter.specs.Effect.{after_by, after_of}
use Rattle.metlazuel.specs.MeterCalls.{phases_from, ratios_from}

-- ---- numbers that are read from bytes

bytes-behind : (n : ℕ) (s : List ℕ) → Bytes s → Bytes (drop n s)
bytes-behind n s b i = rw get_or-drop (b (n + i))

record FitsMask (m : DisplayMask) : Type 0 where
  parameters : m.parameters < 2 ^ 32
  tariffs : m.tariffs < 256
  directions : m.directions < 256

module _ (s : List ℕ) (b : Bytes s) where
  two-below : (i : ℕ) → number_at s i 2 < 65536
  two-below i =
      let e : number_at s i 2 ≡ number_at s (i + 1) 1 * 256 + number_at s i 1 = number_at-split s i 1 1 in
      omega (arith, e, number_at-one s (i + 1), number_at-one s i, b (i + 1), b i)

  four_below : (i : ℕ) → number_at s i 4 < 4294967296
  four_below i =
      let e : number_at s i 4 ≡ number_at s (i + 2) 2 * 65536 + number_at s i 2 = number_at-split s i 2 2 in
      omega (arith, e, two-below (i + 2), two-below i)

  eight-below : (i : ℕ) → number_at s i 8 < 18446744073709551616
  eight-below i =
      let e : number_at s i 8 ≡ number_at s (i + 4) 4 * 4294967296 + number_at s i 4 = number_at-split s i 4 4 in
      omega (arith, e, four_below (i + 4), four_below i)

  telemetry-fits : FitsTelemetry (telemetry_of s)
  unfolding telemetry_of
  telemetry-fits = record { k = four_below 0; ke = two-below 4; reserve = two-below 6 }

  mask_fits : FitsMask (mask_of s)
  unfolding mask_of
  mask_fits = record { parameters = four_below 0; tariffs = b 4; directions = b 5 }

-- ---- the parts of a record that a call changes

abbrev FitsPasswords : Passwords → Type 0
FitsPasswords k = (k.main.0 < 2 ^ 64) × (k.auxiliary.0 < 2 ^ 64)

remade-fits : (r : Record) (a : ℕ) (p : Protection) (k : Passwords) (t : Time) (y : Telemetry) (m : DisplayMask) (n : ℕ) → FitsRecord r
    → a < 256 → FitsPasswords k → FitsTelemetry y → FitsMask m → n < 65536 → FitsRecord (remade r a p k t y m n)
remade-fits r a p k t y m n f address passwords telemetry mask next = record {
  address = address;
  main = passwords.0;
  auxiliary = passwords.1;
  telemetry = telemetry;
  parameters = mask.parameters;
  tariffs = mask.tariffs;
  directions = mask.directions;
  active = f.active;
  reactive = f.reactive;
  next = next;
  ki = f.ki;
  ku = f.ku;
}

module _ (r : Record) (f : FitsRecord r) where
  own-passwords : FitsPasswords r.passwords
  own-passwords = (f.main, f.auxiliary)

  own-mask : FitsMask r.mask
  own-mask = record { parameters = f.parameters; tariffs = f.tariffs; directions = f.directions }

  timed-fits : (p : Protection) (t : Time) → FitsRecord (remade r r.address p r.passwords t r.telemetry r.mask r.next)
  timed-fits p t = remade-fits r _ p _ t _ _ _ f f.address own-passwords f.telemetry own-mask f.next

  time-fits : (t : Time) → FitsRecord (with_time r t)
  time-fits t = timed-fits r.protection t

  next_fits : (n : ℕ) → n < 65536 → FitsRecord (with_next r n)
  next_fits n l = remade-fits r _ _ _ _ _ _ n f f.address own-passwords f.telemetry own-mask l

protection-fits : (r : Record) (p : Protection) → FitsRecord r → FitsRecord (with_protection r p)
protection-fits r p f = timed-fits r f p r.time

-- for `metlazuel_meter_second`: a second later the numbers still fit
pub later-fits : (r : Record) → FitsRecord r → FitsRecord (later r)
unfolding later
later-fits r f = timed-fits r f _ _

-- powers by their bits are floats of 32 bits
pub from-fits : (a b c : ℕ) → FitsPhases (phases_from a b c)
from-fits a b c = record { a = of_bits-fits binary32 a; b = of_bits-fits binary32 b; c = of_bits-fits binary32 c }

-- a meter from the factory has the numbers that were handed over, and the factory's own
pub fresh-fits : (address minutes : ℕ) (t : Telemetry) (c : DateTime) (s : Season) → address < 256 → FitsTelemetry t
    → FitsRecord (fresh address minutes t c s)
unfolding fresh
fresh-fits address minutes t c s a f =
    let password : 0x3030303030303030 < 18446744073709551616 = omega arith in
    record {
      address = a;
      main = password;
      auxiliary = password;
      telemetry = f;
      parameters = omega arith;
      tariffs = omega arith;
      directions = omega arith;
      active = from-fits 0 0 0;
      reactive = from-fits 0 0 0;
      next = omega arith;
      ki = omega arith;
      ku = omega arith;
    }

-- for `metlazuel_meter_powers`: with powers that fit the record fits
pub powers-fit : (r : Record) (p q : Phases) → FitsPhases p → FitsPhases q → FitsRecord r → FitsRecord (with_powers r p q)
powers-fit r p q a b f = record {
  address = f.address;
  main = f.main;
  auxiliary = f.auxiliary;
  telemetry = f.telemetry;
  parameters = f.parameters;
  tariffs = f.tariffs;
  directions = f.directions;
  active = a;
  reactive = b;
  next = f.next;
  ki = f.ki;
  ku = f.ku;
}

-- for `metlazuel_meter_ratios`: with ratios of 32 bits the record fits
pub ratios-fit : (r : Record) (ki ku : ℕ) → ki < 2 ^ 32 → ku < 2 ^ 32 → FitsRecord r → FitsRecord (with_ratios r (ratios_from ki ku))
ratios-fit r ki ku i u f = record {
  address = f.address;
  main = f.main;
  auxiliary = f.auxiliary;
  telemetry = f.telemetry;
  parameters = f.parameters;
  tariffs = f.tariffs;
  directions = f.directions;
  active = f.active;
  reactive = f.reactive;
  next = f.next;
  ki = i;
  ku = u;
}

-- the next place is one of the store's
pub place-fits : (r x : Record) (n : ℕ) → x ≡ with_next r n → is_within x ≡ true → FitsRecord r → FitsRecord x
place-fits r x n e h f =
    let l : x.next < 2976 = ltb-true _ _ (within x h).next in
    let same : x.next ≡ n = ap (λ (y : Record). y.next) e in
    rw e (next_fits r f n (omega arith))

-- ---- a change: the numbers that it puts are read from the frame's bytes

module _ (r : Record) (f : FitsRecord r) (detail : ℕ) (bs : List ℕ) (b : Bytes bs) where
  password-fits : FitsPasswords (passwords_after r.passwords detail (number_at bs 0 8))
  unfolding passwords_after
  password-fits = either FitsPasswords (eqb detail 1) (f.main, eight-below bs b 0) (eight-below bs b 0, f.auxiliary)

  data-fits : (code : ℕ) → FitsRecord (changed_to code r detail bs)
  unfolding changed_to
  data-fits code =
      let own = own-passwords r f in
      let mask = own-mask r f in
      either FitsRecord (eqb code 21) (remade-fits r _ _ _ _ _ _ _ f (b 0) own f.telemetry mask f.next)
      (either FitsRecord (eqb code 24) (remade-fits r _ _ _ _ _ _ _ f f.address own (telemetry-fits bs b) mask f.next)
      (either FitsRecord (eqb code 27) (time-fits r f _)
      (either FitsRecord (eqb code 28) (time-fits r f _)
      (either FitsRecord (eqb code 32) (time-fits r f _)
      (either FitsRecord (eqb code 35) (remade-fits r _ _ _ _ _ _ _ f f.address own f.telemetry (mask_fits bs b) f.next)
      (either FitsRecord (eqb code 37) (remade-fits r _ _ _ _ _ _ _ f f.address password-fits f.telemetry mask f.next) f))))))

zero-fits : (p : Parameter) (r : Record) → FitsRecord r → FitsRecord (zeroed p r)
unfolding zeroed_to
zero-fits p r f =
    either FitsRecord (eqb (code_of p) 27) (time-fits r f _)
    (either FitsRecord (eqb (code_of p) 28) (time-fits r f _)
    (either FitsRecord (eqb (code_of p) 36) (next_fits r f 0 (omega arith)) f))

after-by : (fn : Function) (r : Record) (f : List ℕ) → Bytes f → FitsRecord r → FitsRecord (after_by fn r (command_of f) f)
unfolding after_by
after-by (function.Read reading) r f b w = w
after-by function.Change r f b w = protection-fits _ _ (data-fits r w (detail_in f) (data_in f) (bytes-behind 4 f b) (code_of (parameter_in f)))
after-by function.Zero r f b w = protection-fits _ _ (zero-fits (parameter_in f) r w)
after-by function.Unlock r f b w = protection-fits r _ w
after-by function.Lock r f b w = protection-fits r _ w
after-by function.Unknown r f b w = w

-- for `metlazuel_meter_answer`: whatever a frame of bytes asks for, the record after it fits
pub after-fits : (r : Record) (f : List ℕ) → Bytes f → FitsRecord r → FitsRecord (after_of r (command_of f) f)
unfolding after_of
after-fits r f b w = after-by (function_in f) r f b w

-- ---- what a call puts over the bytes that it read, the next one reads

finite-phases : (p : Phases) → are_powers p ≡ true → FinitePhases p
finite-phases p e =
    let h = powers-bounds p e in
    record { a = bounds-finite p.a h.a; b = bounds-finite p.b h.b; c = bounds-finite p.c h.c }

-- a record put over bytes that were read as one is read there
pub read_again : (bs : List ℕ) (r x : Record) → record_of bs ≡ Some r → FitsRecord x → is_within x ≡ true → record_of (written bs 0 (record_bytes x)) ≡ Some x
read_again bs r x e f h =
    let w = within x h in
    record-renewed bs r x e f (finite-phases x.active w.active) (finite-phases x.reactive w.reactive)

-- and a new meter, what is put over any bytes of a record's length
pub read_back : (bs : List ℕ) (x : Record) → length bs ≡ record_size → FitsRecord x → is_within x ≡ true → record_of (written bs 0 (record_bytes x)) ≡ Some x
read_back bs x l f h =
    let w = within x h in
    ap record_of (record-whole bs x l) ∙ record-back x f (finite-phases x.active w.active) (finite-phases x.reactive w.reactive)

-- ---- and a record that was read from bytes has its widths

abbrev FitsPower : Option Float → Type 0
FitsPower (Some x) = T (fits binary32 x)
FitsPower None = Unit

abbrev FitsThree : Option Phases → Type 0
FitsThree (Some p) = FitsPhases p
FitsThree None = Unit

abbrev FitsRead : Option Record → Type 0
FitsRead (Some r) = FitsRecord r
FitsRead None = Unit

power-fits : (bs : List ℕ) (i : ℕ) → FitsPower (power_of bs i)
unfolding power_of float_at
power-fits bs i = either FitsPower (finite (float_at bs i)) (of_bits-fits binary32 (number_at bs i 4)) tt

three-fit : (a b c : Option Float) → FitsPower a → FitsPower b → FitsPower c → FitsThree (three a b c)
unfolding three
three-fit None b c x y z = tt
three-fit (Some a) None c x y z = tt
three-fit (Some a) (Some b) None x y z = tt
three-fit (Some a) (Some b) (Some c) x y z = record { a = x; b = y; c = z }

phases-fit : (bs : List ℕ) → FitsThree (phases_of bs)
unfolding phases_of
phases-fit bs = three-fit _ _ _ (power-fits bs 0) (power-fits bs 4) (power-fits bs 8)

module _ (bs : List ℕ) (b : Bytes bs) where
  parts-fit : (l : Option Level) (t : Option Time) (a p : Option Phases) → FitsThree a → FitsThree p → FitsRead (together bs l t a p)
  unfolding together record_with
  parts-fit None t a p x y = tt
  parts-fit (Some l) None a p x y = tt
  parts-fit (Some l) (Some t) None p x y = tt
  parts-fit (Some l) (Some t) (Some a) None x y = tt
  parts-fit (Some l) (Some t) (Some a) (Some p) x y =
      let mask = mask_fits (drop 48 bs) (bytes-behind 48 bs b) in
      record {
        address = b 0;
        main = eight-below bs b 3;
        auxiliary = eight-below bs b 11;
        telemetry = telemetry-fits (drop 40 bs) (bytes-behind 40 bs b);
        parameters = mask.parameters;
        tariffs = mask.tariffs;
        directions = mask.directions;
        active = x;
        reactive = y;
        next = two-below bs b 79;
        ki = four_below bs b 81;
        ku = four_below bs b 85;
      }

  bytes_fit : FitsRead (record_of bs)
  unfolding record_of record_in
  bytes_fit = either FitsRead (eqb (length bs) 89) (parts-fit _ _ _ _ (phases-fit (drop 54 bs)) (phases-fit (drop 66 bs))) tt

  -- for `start`: a record that was read from bytes has numbers that fit
  pub read_fits : (r : Record) → record_of bs ≡ Some r → FitsRecord r
  read_fits r e = subst FitsRead e bytes_fit
