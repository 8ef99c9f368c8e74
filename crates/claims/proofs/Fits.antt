-- Demand 2: a command leaves a record whose numbers fit their widths, and a store of bytes.
use mathlib.Core.List.{List, [], ◌∷◌}
use Prim.Native.Nat.{ℕ, zero, suc, ◌+◌, ◌^◌, ◌<◌}
use native.Mathlib.Nat.{zero-lt-suc, pow-zero, pow-suc}
use native.Mathlib.Omega.{arith}
use lib.Dec.{eqb, lit≤}
use lib.ListN.{length, take, drop, replicate}
use lib.Seq.{get_or-drop}
use Rattle.test_laws.proofs.Test.{either}
use Rattle.byte_numbers.specs.Number.{Bytes, number}
use Rattle.byte_numbers.specs.Place.{number_at}
use Rattle.wire_values.specs.Mask.{mask_of}
use Rattle.wire_values.specs.Telemetry.{FitsTelemetry, telemetry_of}
use Rattle.wire_values.specs.declared.mask.DisplayMask.{DisplayMask}
use Rattle.wire_values.specs.declared.telemetry.Telemetry.{Telemetry}
use Rattle.parameters.specs.declared.code.Parameter.{Parameter}
use Rattle.parameters.specs.declared.code.Parameter.TheVariants as parameter
use Rattle.meter_clock.specs.declared.protection.Protection.{Protection}
use Rattle.meter_clock.specs.declared.season.Time.{Time}
use Rattle.meter_store.specs.Store.{cleared}
use Rattle.meter_record.specs.Widths.{FitsRecord}
use Rattle.meter_record.specs.With.{remade, with_protection}
use Rattle.meter_record.specs.declared.record.Passwords.{Passwords}
use Rattle.meter_record.specs.declared.record.Record.{Record}
use Rattle.meter_command.specs.Change.{passwords_after, changed_to, zeroed_to}
use Rattle.meter_command.proofs.KeepLaws.{changed, zeroed}
use Rattle.meter_command.specs.Command.{detail_in, data_in}
use Rattle.meter.specs.Effect.{renewed}

-- ---- bytes and their numbers

-- zeros are bytes: for a store from the factory
pub zero-bytes : (n : ℕ) → Bytes (replicate n 0)
zero-bytes zero i = zero-lt-suc 255
zero-bytes (suc n) zero = zero-lt-suc 255
zero-bytes (suc n) (suc i) = zero-bytes n i

-- a store that was cleared is of bytes, for the read that comes next
pub cleared-bytes : (s : List ℕ) → Bytes (cleared s)
unfolding cleared
cleared-bytes s = zero-bytes (length s)

drop-bytes : (n : ℕ) (s : List ℕ) → Bytes s → Bytes (drop n s)
drop-bytes n s b i = rw get_or-drop (b (n + i))

number-below : (k : ℕ) (l : List ℕ) → Bytes l → number (take k l) < 256 ^ k
unfolding number
number-below zero l h = rw pow-zero (omega arith)
number-below (suc k) [] h = rw pow-suc (omega (arith, number-below k [] h))
number-below (suc k) (b ∷ l) h = rw pow-suc (omega (arith, number-below k l (λ i. h (suc i)), h 0))

number_fits : (s : List ℕ) (i k : ℕ) → Bytes s → number_at s i k < 256 ^ k
unfolding number_at
number_fits s i k b = number-below k (drop i s) (drop-bytes i s b)

-- ---- a record of which what a command can change was changed

record FitsPasswords (p : Passwords) : Type 0 where
  main : p.main.0 < 2 ^ 64
  auxiliary : p.auxiliary.0 < 2 ^ 64

record FitsMask (m : DisplayMask) : Type 0 where
  parameters : m.parameters < 2 ^ 32
  tariffs : m.tariffs < 256
  directions : m.directions < 256

remade-fits : (r : Record) (a : ℕ) (g : Protection) (p : Passwords) (t : Time) (y : Telemetry) (m : DisplayMask) (n : ℕ) → FitsRecord r
    → a < 256 → FitsPasswords p → FitsTelemetry y → FitsMask m → n < 2 ^ 16 → FitsRecord (remade r a g p t y m n)
remade-fits r a g p t y m n f address passwords telemetry mask next = record {
  address = address;
  main = passwords.main;
  auxiliary = passwords.auxiliary;
  telemetry = telemetry;
  parameters = mask.parameters;
  tariffs = mask.tariffs;
  directions = mask.directions;
  active = f.active;
  reactive = f.reactive;
  next = next;
  ki = f.ki;
  ku = f.ku;
}

module _ (r : Record) (f : FitsRecord r) where
  passwords : FitsPasswords r.passwords
  passwords = record { main = f.main; auxiliary = f.auxiliary }

  mask : FitsMask r.mask
  mask = record { parameters = f.parameters; tariffs = f.tariffs; directions = f.directions }

  protection-fits : (g : Protection) → FitsRecord (with_protection r g)
  protection-fits g = remade-fits r _ g _ _ _ _ _ f f.address passwords f.telemetry mask f.next

  time-fits : (t : Time) → FitsRecord (remade r r.address r.protection r.passwords t r.telemetry r.mask r.next)
  time-fits t = remade-fits r _ _ _ t _ _ _ f f.address passwords f.telemetry mask f.next

  passwords-fit : (detail n : ℕ) → n < 2 ^ 64 → FitsPasswords (passwords_after r.passwords detail n)
  unfolding passwords_after
  passwords-fit detail n h =
      either FitsPasswords (eqb detail 1) (record { main = f.main; auxiliary = h }) (record { main = h; auxiliary = f.auxiliary })

  changed-fits : (p : Parameter) (c : List ℕ) → Bytes c → FitsRecord (changed p r c)
  unfolding changed_to telemetry_of mask_of
  changed-fits p c b = go p
    where
      bs : Bytes (data_in c)
      bs = drop-bytes 4 c b

      go : (p : Parameter) → FitsRecord (changed p r c)
      go parameter.Address = remade-fits r _ _ _ _ _ _ _ f (bs 0) passwords f.telemetry mask f.next
      go parameter.Telemetry =
          remade-fits r _ _ _ _ _ _ _ f f.address passwords
          (record { k = number_fits (data_in c) 0 4 bs; ke = number_fits (data_in c) 4 2 bs; reserve = number_fits (data_in c) 6 2 bs }) mask f.next
      go parameter.SummerDate = time-fits _
      go parameter.WinterDate = time-fits _
      go parameter.Clock = time-fits _
      go parameter.DisplayMask =
          remade-fits r _ _ _ _ _ _ _ f f.address passwords f.telemetry
          (record { parameters = number_fits (data_in c) 0 4 bs; tariffs = bs 4; directions = bs 5 }) f.next
      go parameter.Password =
          remade-fits r _ _ _ _ _ _ _ f f.address (passwords-fit (detail_in c) (number_at (data_in c) 0 8) (number_fits (data_in c) 0 8 bs))
          f.telemetry mask f.next
      go parameter.ActivePower = f
      go parameter.ReactivePower = f
      go parameter.Slice = f
      go parameter.SixSlices = f
      go parameter.Unknown = f

  zeroed-fits : (p : Parameter) → FitsRecord (zeroed p r)
  unfolding zeroed_to
  zeroed-fits parameter.SummerDate = time-fits _
  zeroed-fits parameter.WinterDate = time-fits _
  zeroed-fits parameter.Slice = remade-fits r _ _ _ _ _ _ _ f f.address passwords f.telemetry mask (lit≤ tt)
  zeroed-fits parameter.Address = f
  zeroed-fits parameter.Telemetry = f
  zeroed-fits parameter.Clock = f
  zeroed-fits parameter.DisplayMask = f
  zeroed-fits parameter.Password = f
  zeroed-fits parameter.ActivePower = f
  zeroed-fits parameter.ReactivePower = f
  zeroed-fits parameter.SixSlices = f
  zeroed-fits parameter.Unknown = f

-- a change leaves a record whose numbers fit their widths, for the read that comes next
pub change-fits : (r : Record) (p : Parameter) (c : List ℕ) → FitsRecord r → Bytes c → FitsRecord (renewed (changed p r c))
change-fits r p c f b = protection-fits (changed p r c) (changed-fits r f p c b) _

-- and so does a zeroing
pub zeroing-fits : (r : Record) (p : Parameter) → FitsRecord r → FitsRecord (renewed (zeroed p r))
zeroing-fits r p f = protection-fits (zeroed p r) (zeroed-fits r f p) _
