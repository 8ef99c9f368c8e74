-- Demand 2, changes: a command that is done has passed its access, and what it leaves is the effect of its function alone.
use mathlib.Core.Path.{◌≡◌, refl, sym, ap, ◌∙◌}
use mathlib.Core.Bool.{Bool, true, false, cond, false≢true}
use mathlib.Core.List.{List}
use Prim.Native.Nat.{ℕ}
use lib.Dec.{eqb, leb}
use lib.ListN.{length}
use borrow.Author.Tests.{eqb-true}
use Rattle.std.specs.Prelude.{Err, Ok}
use Rattle.test_laws.proofs.Test.{either}
use Rattle.byte_numbers.specs.Place.{byte_at, number_at}
use Rattle.parameters.specs.declared.code.Function.{Function}
use Rattle.parameters.specs.declared.code.Function.TheVariants as function
use Rattle.parameters.specs.declared.code.Reading.{Reading}
use Rattle.parameters.specs.declared.code.Parameter.{Parameter}
use Rattle.parameters.specs.declared.code.Parameter.TheVariants as parameter
use Rattle.meter_clock.specs.Protection.{shut, opened}
use Rattle.meter_clock.specs.declared.protection.Protection.{Protection}
use Rattle.meter_store.specs.Store.{cleared}
use Rattle.meter_record.specs.With.{with_protection, with_passwords}
use Rattle.meter_record.specs.declared.record.Passwords.{Passwords}
use Rattle.meter_record.specs.declared.record.Record.{Record}
use Rattle.meter_command.specs.Access.{by_own, is_main, change_allowed, password_for, level_for, unlock_verdict}
use Rattle.meter_command.specs.Change.{passwords_after, changed_to, zeroed_to}
use Rattle.meter_command.specs.Judgement.{verdict_of, verdict_by}
use Rattle.meter_command.proofs.JudgementLaws.{change-accepted, zero-accepted}
use Rattle.meter_command.proofs.KeepLaws.{changed, zeroed, change-level, zero-level}
use Rattle.meter_command.specs.Command.{function_in, parameter_in, detail_in, data_in, command_of}
use Rattle.meter_command.specs.Verdict.{is_done}
use Rattle.meter_command.specs.declared.access.Met.{Met}
use Rattle.meter_command.specs.declared.access.Met.TheVariants.{Own, Zero, Neither}
use Rattle.meter_command.specs.declared.verdict.Refusal.TheVariants.{WrongLength, NoAccess, WrongArgument}
use Rattle.meter.specs.Effect.{renewed, after_of, after_by, is_slice, clears, clears_by, store_after}
use Rattle.meter.specs.Reply.{Outcome, met, answer_of}
use Rattle.claims.specs.Demand1.{answer_number}
use Rattle.claims.specs.Changes.{other_named, Alone, Permitted, Leaves}
use Rattle.claims.proofs.Answer.{answer}
use Rattle.claims.proofs.Replies.{passed}
use Rattle.parameters.specs.Table.{code_of}

-- ---- a command that is done, by its function

module _ (r : Record) (s f out : List ℕ) (fn : Function) (e : function_in f ≡ fn) (h : answer_number (answer_of r s f out) ≡ 0) where
  -- a command that is done leaves the record that its function makes of the one before
  pub after-done : (answer_of r s f out).answer.after ≡ after_by fn r (command_of f) f
  unfolding after_of
  after-done = ap (λ (o : Outcome). o.answer.after) (passed r s f out h).whole ∙ ap (λ (g : Function). after_by g r (command_of f) f) e

  -- it leaves the store, but for the zeroing that clears it
  pub store-done : (answer_of r s f out).store ≡ cond (clears_by fn (code_of (parameter_in f))) (cleared s) s
  unfolding store_after clears
  store-done =
      ap (λ (o : Outcome). o.store) (passed r s f out h).whole ∙ ap (λ (g : Function). cond (clears_by g (code_of (parameter_in f))) (cleared s) s) e

  -- it has passed the checks of its function
  pub verdict-done : is_done (verdict_by fn (met r f) r (command_of f) f) ≡ true
  unfolding verdict_of
  verdict-done = ap (λ (g : Function). is_done (verdict_by g (met r f) r (command_of f) f)) (sym e) ∙ ap is_done (passed r s f out h).verdict

-- ---- changes

password-alone : (p : Passwords) (detail n : ℕ) → passwords_after p detail n ≡ other_named detail p (passwords_after p detail n)
unfolding passwords_after
password-alone p detail n = go (eqb detail 1)
  where
    after : Bool → Passwords
    after b = cond b (record { main = p.main; auxiliary = record { 0 = n } }) (record { main = record { 0 = n }; auxiliary = p.auxiliary })

    go : (b : Bool) → after b ≡ cond b (record { main = p.main; auxiliary = (after b).auxiliary }) (record { main = (after b).main; auxiliary = p.auxiliary })
    go true = refl
    go false = refl

change-alone : (p : Parameter) (r : Record) (f : List ℕ) → Alone p (detail_in f) r (changed p r f)
unfolding changed_to
change-alone parameter.Address r f = refl
change-alone parameter.Telemetry r f = refl
change-alone parameter.SummerDate r f = refl
change-alone parameter.WinterDate r f = refl
change-alone parameter.Clock r f = refl
change-alone parameter.DisplayMask r f = refl
change-alone parameter.Password r f = ap (with_passwords r) (password-alone r.passwords (detail_in f) (number_at (data_in f) 0 8))
change-alone parameter.Slice r f = refl
change-alone parameter.ActivePower r f = refl
change-alone parameter.ReactivePower r f = refl
change-alone parameter.SixSlices r f = refl
change-alone parameter.Unknown r f = refl

zero-alone : (p : Parameter) (detail : ℕ) (r : Record) → Alone p detail r (zeroed p r)
unfolding zeroed_to
zero-alone parameter.Address detail r = refl
zero-alone parameter.Telemetry detail r = refl
zero-alone parameter.SummerDate detail r = refl
zero-alone parameter.WinterDate detail r = refl
zero-alone parameter.Clock detail r = refl
zero-alone parameter.DisplayMask detail r = refl
zero-alone parameter.Password detail r = either (λ (p : Passwords). r ≡ with_passwords r p) (eqb detail 1) refl refl
zero-alone parameter.Slice detail r = refl
zero-alone parameter.ActivePower detail r = refl
zero-alone parameter.ReactivePower detail r = refl
zero-alone parameter.SixSlices detail r = refl
zero-alone parameter.Unknown detail r = refl

-- all the seconds of the level that was open before
renewal-of : (r x : Record) → x.protection ≡ r.protection → renewed x ≡ with_protection x (opened r.protection.level)
renewal-of r x e = ap (λ (p : Protection). with_protection x (opened p.level)) e

-- what may change the meter met its own address
own-only : (m : Met) → by_own m ≡ true → m ≡ Own
own-only Own h = refl
own-only Zero h = absurd (false≢true h)
own-only Neither h = absurd (false≢true h)

-- demand 2's `change`: one that is done had its access and changed the named parameter alone, and the 240 seconds start again
pub change : (r : Record) (s f out : List ℕ) → function_in f ≡ function.Change → let o = answer_of r s f out in answer_number o ≡ 0
    → Permitted (change_allowed (parameter_in f) r.protection.level) f r s o
unfolding verdict_by after_by clears_by
change r s f out e h = record {
  had = (change-accepted (met r f) r (command_of f) f (verdict-done r s f out function.Change e h)).allowed;
  by-own = own-only (met r f) (change-accepted (met r f) r (command_of f) f (verdict-done r s f out function.Change e h)).own;
  before_renewal = changed (parameter_in f) r f;
  alone = change-alone (parameter_in f) r f;
  renewal = after-done r s f out function.Change e h ∙ renewal-of r (changed (parameter_in f) r f) (change-level (parameter_in f) r f);
  slices = store-done r s f out function.Change e h;
}

-- demand 2's `zeroing`: one that is done had main access; that of the slices makes the store empty
pub zeroing : (r : Record) (s f out : List ℕ) → function_in f ≡ function.Zero → let o = answer_of r s f out in answer_number o ≡ 0
    → Permitted (is_main r.protection.level) f r (cond (is_slice (parameter_in f)) (cleared s) s) o
unfolding verdict_by after_by clears_by
zeroing r s f out e h = record {
  had = (zero-accepted (met r f) r (command_of f) (verdict-done r s f out function.Zero e h)).allowed;
  by-own = own-only (met r f) (zero-accepted (met r f) r (command_of f) (verdict-done r s f out function.Zero e h)).own;
  before_renewal = zeroed (parameter_in f) r;
  alone = zero-alone (parameter_in f) (detail_in f) r;
  renewal = after-done r s f out function.Zero e h ∙ renewal-of r (zeroed (parameter_in f) r) (zero-level (parameter_in f) r);
  slices = store-done r s f out function.Zero e h;
}

-- demand 2's `read_changes_nothing`: a read that is answered leaves record and store
pub read_changes_nothing : (reading : Reading) (r : Record) (s f out : List ℕ) → function_in f ≡ function.Read reading
    → let o = answer_of r s f out in answer_number o ≡ 0 → Leaves r s o
unfolding after_by clears_by
read_changes_nothing reading r s f out e h =
    record { after = after-done r s f out (function.Read reading) e h; slices = store-done r s f out (function.Read reading) e h }

-- ---- what is refused leaves all as it was

-- for the claims of refusals: demand 1's `answer`, as a record and a store that are left
pub refused-leaves : (r : Record) (s f out : List ℕ) → (answer_number (answer_of r s f out) ≡ 0 → ⊥) → Leaves r s (answer_of r s f out)
refused-leaves r s f out n =
    let e = (answer r s f out).unchanged n in
    record { after = ap (λ (p : Record × List ℕ). p.0) e; slices = ap (λ (p : Record × List ℕ). p.1) e }

-- demand 2's `change_without_access`: it leaves record and store
pub change_without_access : (r : Record) (s f out : List ℕ) → function_in f ≡ function.Change
    → change_allowed (parameter_in f) r.protection.level ≡ false → Leaves r s (answer_of r s f out)
change_without_access r s f out e a = refused-leaves r s f out (λ h. false≢true (sym a ∙ (change r s f out e h).had))

-- demand 2's `zeroing_without_access`: it leaves record and store
pub zeroing_without_access : (r : Record) (s f out : List ℕ) → function_in f ≡ function.Zero
    → is_main r.protection.level ≡ false → Leaves r s (answer_of r s f out)
zeroing_without_access r s f out e a = refused-leaves r s f out (λ h. false≢true (sym a ∙ (zeroing r s f out e h).had))

-- ---- passwords

-- a password that the meter takes is the named level's
its_own : (p : Passwords) (f : List ℕ) → is_done (unlock_verdict p (command_of f) f) ≡ true → number_at f 4 8 ≡ password_for p (detail_in f)
unfolding unlock_verdict
its_own p f h =
    go (eqb (length f) 14) (leb (byte_at f 3) 1) (eqb (number_at f 4 8) (password_for p (byte_at f 3))) refl (eqb (byte_at f 2) 0) h
  where
    go : (a b c : Bool) → eqb (number_at f 4 8) (password_for p (byte_at f 3)) ≡ c → (d : Bool)
        → is_done (cond a (cond b (cond c (cond d (Ok tt) (Err WrongArgument)) (Err NoAccess)) (Err WrongArgument)) (Err WrongLength)) ≡ true
        → number_at f 4 8 ≡ password_for p (byte_at f 3)
    go false b c e d k = absurd (false≢true k)
    go true false c e d k = absurd (false≢true k)
    go true true false e d k = absurd (false≢true k)
    go true true true e d k = eqb-true (number_at f 4 8) (password_for p (byte_at f 3)) e

-- demand 2's `right_password`: an unlock that is done had the level's password, opens that level and changes nothing else
pub right_password : (r : Record) (s f out : List ℕ) → function_in f ≡ function.Unlock → let o = answer_of r s f out in answer_number o ≡ 0
    → (number_at f 4 8 ≡ password_for r.passwords (detail_in f)) × Leaves (with_protection r (opened (level_for (detail_in f)))) s o
unfolding verdict_by after_by clears_by
right_password r s f out e h = (
  its_own r.passwords f (verdict-done r s f out function.Unlock e h),
  record { after = after-done r s f out function.Unlock e h; slices = store-done r s f out function.Unlock e h },
)

-- demand 2's `wrong_password`: another one changes nothing, an open level included
pub wrong_password : (r : Record) (s f out : List ℕ) → function_in f ≡ function.Unlock
    → (number_at f 4 8 ≡ password_for r.passwords (detail_in f) → ⊥) → Leaves r s (answer_of r s f out)
wrong_password r s f out e n = refused-leaves r s f out (λ h. n (right_password r s f out e h).0)

-- demand 2's `lock`: one that is done restores protection and changes nothing else
pub lock : (r : Record) (s f out : List ℕ) → function_in f ≡ function.Lock → let o = answer_of r s f out in answer_number o ≡ 0
    → Leaves (with_protection r shut) s o
unfolding after_by clears_by
lock r s f out e h = record { after = after-done r s f out function.Lock e h; slices = store-done r s f out function.Lock e h }
