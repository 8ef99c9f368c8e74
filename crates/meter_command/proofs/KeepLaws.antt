-- A change that fits, and a zeroing, keep a record within its ranges.
use mathlib.Core.Path.{◌≡◌, refl}
use mathlib.Core.Bool.{Bool, true, false, cond}
use mathlib.Core.List.{List}
use Prim.Native.Nat.{ℕ}
use lib.Dec.{eqb}
use Rattle.test_laws.proofs.Test.{both, either}
use Rattle.parameters.specs.Table.{parameter_row, code_of}
use Rattle.parameters.specs.declared.code.Parameter.{Parameter}
use Rattle.wire_values.specs.Telemetry.{telemetry_of}
use Rattle.wire_values.specs.declared.mask.DisplayMask.{DisplayMask}
use Rattle.meter_clock.specs.Protection.{is_protection}
use Rattle.meter_clock.specs.Season.{is_fitting}
use Rattle.meter_clock.proofs.SecondLaws.{Fitting, fitting, is-fitting}
use Rattle.meter_clock.specs.declared.protection.Protection.{Protection}
use Rattle.meter_clock.specs.declared.season.Time.{Time}
use Rattle.meter_record.proofs.RangeLaws.{Within, remade-within}
use Rattle.meter_record.specs.Ranges.{is_telemetry}
use Rattle.meter_record.specs.With.{remade, with_protection, with_telemetry, with_time}
use Rattle.meter_record.specs.declared.record.Passwords.{Passwords}
use Rattle.meter_record.specs.declared.record.Record.{Record}
use Rattle.meter_command.specs.Change.{detail_fits, telemetry_fits, data_fits, changed_to, zeroed_to}
use Rattle.meter_command.specs.Judgement.{argument_fits}
use Rattle.meter_command.specs.Command.{detail_in, data_in}

-- the record after a change and after a zeroing of a parameter
abbrev pub changed : Parameter → Record → List ℕ → Record
changed p r f = changed_to (code_of p) r (detail_in f) (data_in f)

-- a zeroing has no data, so its code says all of it
abbrev pub zeroed : Parameter → Record → Record
zeroed p r = zeroed_to (code_of p) r

-- a record with another right protection stays within its ranges
pub protection-within : (r : Record) (p : Protection) → Within r → is_protection p ≡ true → Within (with_protection r p)
protection-within r p w h = remade-within r _ _ _ _ _ _ _ w w.address h w.time w.telemetry w.next

time-within : (r : Record) (t : Time) → Within r → is_fitting t ≡ true → Within (with_time r t)
time-within r t w h = remade-within r _ _ _ _ _ _ _ w w.address w.protection h w.telemetry w.next

-- a test and a record that go by the same code
fits-within : (b : Bool) {x y : Bool} {u v : Record} → (x ≡ true → Within u) → (y ≡ true → Within v) → cond b x y ≡ true → Within (cond b u v)
fits-within true f g = f
fits-within false f g = g

-- a change whose argument fits keeps a record within its ranges, whatever parameter it names
pub change-within : (p : Parameter) (r : Record) (f : List ℕ) → Within r → argument_fits (parameter_row p) (detail_in f) r.telemetry (data_in f) ≡ true
    → Within (changed p r f)
unfolding changed_to argument_fits data_fits telemetry_fits
change-within p r f w h = go (both (detail_fits (parameter_row p).detail_from (parameter_row p).detail_to (detail_in f)) (data_fits (code_of p) r.telemetry (data_in f)) h).1
  where
    t : Fitting r.time
    t = fitting r.time w.time

    telemetry : telemetry_fits (telemetry_of (data_in f)) r.telemetry ≡ true → Within (with_telemetry r (telemetry_of (data_in f)))
    telemetry e =
        let y = both (eqb (telemetry_of (data_in f)).ke r.telemetry.ke) (is_telemetry (telemetry_of (data_in f))) e in
        remade-within r _ _ _ _ _ _ _ w w.address w.protection w.time y.1 w.next

    kept : (k : Passwords) (m : DisplayMask) → Within (remade r r.address r.protection k r.time r.telemetry m r.next)
    kept k m = remade-within r _ _ k _ _ m _ w w.address w.protection w.time w.telemetry w.next

    go : data_fits (code_of p) r.telemetry (data_in f) ≡ true → Within (changed_to (code_of p) r (detail_in f) (data_in f))
    go =
        fits-within (eqb (code_of p) 21) (λ e. remade-within r _ _ _ _ _ _ _ w e w.protection w.time w.telemetry w.next)
        (fits-within (eqb (code_of p) 24) telemetry
        (fits-within (eqb (code_of p) 27) (λ e. time-within r _ w (is-fitting _ (record { clock = t.clock; summer = e; winter = t.winter })))
        (fits-within (eqb (code_of p) 28) (λ e. time-within r _ w (is-fitting _ (record { clock = t.clock; summer = t.summer; winter = e })))
        (fits-within (eqb (code_of p) 32) (λ e. time-within r _ w (is-fitting _ (record { clock = e; summer = t.summer; winter = t.winter })))
        (λ e. either Within (eqb (code_of p) 35) (kept _ _) (either Within (eqb (code_of p) 37) (kept _ _) w))))))

-- and so does a zeroing of any parameter
pub zero-within : (p : Parameter) (r : Record) → Within r → Within (zeroed p r)
unfolding zeroed_to
zero-within p r w =
    either Within (eqb (code_of p) 27) (time-within r _ w (is-fitting _ (record { clock = t.clock; summer = refl; winter = t.winter })))
    (either Within (eqb (code_of p) 28) (time-within r _ w (is-fitting _ (record { clock = t.clock; summer = t.summer; winter = refl })))
    (either Within (eqb (code_of p) 36) (remade-within r _ _ _ _ _ _ _ w w.address w.protection w.time w.telemetry refl)
    w))
  where
    t : Fitting r.time
    t = fitting r.time w.time

-- ---- neither touches protection

module _ (p : Parameter) (r : Record) where
  abbrev Alike : Record → Type 0
  Alike x = x.protection ≡ r.protection

  abbrev has : ℕ → Bool
  has code = eqb (code_of p) code

  -- a change leaves the level, so that what it needed is still open after it
  pub change-level : (f : List ℕ) → Alike (changed p r f)
  unfolding changed_to
  change-level f =
      either Alike (has 21) refl
      (either Alike (has 24) refl
      (either Alike (has 27) refl
      (either Alike (has 28) refl (either Alike (has 32) refl (either Alike (has 35) refl (either Alike (has 37) refl refl))))))

  -- and so does a zeroing
  pub zero-level : Alike (zeroed p r)
  unfolding zeroed_to
  zero-level = either Alike (has 27) refl (either Alike (has 28) refl (either Alike (has 36) refl refl))
