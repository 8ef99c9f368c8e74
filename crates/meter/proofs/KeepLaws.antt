-- Every call keeps record and store a meter's: what a sound record and store become is sound.
use Rattle.std.specs.Prelude.{Err, Ok, Result}
use Rattle.meter_record.specs.declared.record.RecordError.{RecordError}
use mathlib.Core.Path.{◌≡◌, refl, ap, ap₂, ◌∙◌}
use mathlib.Core.Bool.{Bool, true, false, ◌&&◌}
use mathlib.Core.List.{List}
use Prim.Native.Nat.{ℕ}
use lib.Dec.{eqb, ltb}
use lib.ListN.{length}
use borrow.Author.Tests.{lt-ltb, ltb-true}
use Rattle.test_laws.proofs.Test.{both}
use Rattle.parameters.specs.Table.{parameter_row}
use Rattle.parameters.specs.declared.code.Function.{Function}
use Rattle.meter_clock.specs.Protection.{opened, shut, is_protection}
use Rattle.meter_clock.specs.declared.protection.Protection.{Protection}
use Rattle.meter_clock.specs.declared.protection.Level.TheVariants.{Auxiliary, Main}
use Rattle.slots.specs.Day.{slots_of}
use Rattle.slots.specs.Key.{is_legal}
use Rattle.slots.specs.declared.key.Key.{Key}
use Rattle.meter_store.specs.Store.{places, store_bytes}
use Rattle.meter_store.proofs.StoreLaws.{length-cleared, length-put, next-in-range}
use Rattle.meter_record.proofs.RangeLaws.{Within, within, is_within_lem, remade-within}
use Rattle.meter_record.specs.Ranges.{is_within}
use Rattle.meter_record.specs.declared.record.Record.{Record}
use Rattle.meter_record.specs.declared.record.RecordError.TheVariants.{OutOfRange, Unsound}
use Rattle.meter_command.specs.Access.{is_open, level_for}
use Rattle.meter_command.proofs.JudgementLaws.{change-accepted, zero-accepted, allowed-open, main_open, open-runs}
use Rattle.meter_command.specs.Judgement.{verdict_of, verdict_by}
use Rattle.meter_command.proofs.KeepLaws.{changed, zeroed, protection-within, change-within, change-level, zero-within, zero-level}
use Rattle.meter_command.specs.Command.{function_in, parameter_in, detail_in, command_of}
use Rattle.meter_command.specs.declared.command.Command.{Command}
use Rattle.meter_command.specs.Verdict.{is_done}
use Rattle.meter_command.specs.declared.access.Met.{Met}
use Rattle.parameters.specs.declared.code.Function.TheVariants as function
use Rattle.meter.specs.Bench.{slice_put}
use Rattle.meter.specs.Effect.{renewed, after_of, after_by, clears, store_after}
use Rattle.meter.specs.Reply.{is_sound, met, heard, verdict_on, replied, answer_of}

-- all the seconds of a level that is open
renewed-within : (r : Record) → Within r → is_open r.protection.level ≡ true → Within (renewed r)
renewed-within r w h = protection-within r (opened r.protection.level) w (open-runs r.protection.level h)

level-runs : (n : ℕ) → is_protection (opened (level_for n)) ≡ true
unfolding level_for
level-runs n = go (eqb n 1) refl
  where
    go : (b : Bool) → eqb n 1 ≡ b → is_protection (opened (level_for n)) ≡ true
    go true e = simp e (open-runs Auxiliary refl)
    go false e = simp e (open-runs Main refl)

shut-fits : is_protection shut ≡ true
unfolding is_protection
shut-fits = refl

after-by : (fn : Function) (m : Met) (r : Record) (f : List ℕ) → Within r → is_done (verdict_by fn m r (command_of f) f) ≡ true
    → Within (after_by fn r (command_of f) f)
unfolding verdict_by after_by
after-by (function.Read reading) m r f w d = w
after-by function.Change m r f w d =
    let a = change-accepted m r (command_of f) f d in
    renewed-within (changed (parameter_in f) r f) (change-within (parameter_in f) r f w a.fits)
    (ap (λ (p : Protection). is_open p.level) (change-level (parameter_in f) r f) ∙ allowed-open (parameter_row (parameter_in f)).access r.protection.level a.allowed)
after-by function.Zero m r f w d =
    let a = zero-accepted m r (command_of f) d in
    renewed-within (zeroed (parameter_in f) r) (zero-within (parameter_in f) r w)
    (ap (λ (p : Protection). is_open p.level) (zero-level (parameter_in f) r) ∙ main_open r.protection.level a.allowed)
after-by function.Unlock m r f w d = protection-within r (opened (level_for (detail_in f))) w (level-runs (detail_in f))
after-by function.Lock m r f w d = protection-within r shut w shut-fits
after-by function.Unknown m r f w d = w

length-after : (s : List ℕ) (c : Command) → length (store_after s c) ≡ length s
unfolding store_after
length-after s c = go (clears c) refl
  where
    go : (b : Bool) → clears c ≡ b → length (store_after s c) ≡ length s
    go true e = simp e (length-cleared s)
    go false e = simp e

done-sound : (r : Record) (s f : List ℕ) → is_sound r s ≡ true → is_done (verdict_on r f) ≡ true → is_sound (after_of r (command_of f) f) (store_after s (command_of f)) ≡ true
unfolding is_sound after_of verdict_of
done-sound r s f h d =
    let a = both (eqb (length s) store_bytes) (is_within r) h in
    ap₂ ◌&&◌
    (ap (λ (n : ℕ). eqb n store_bytes) (length-after s (command_of f)) ∙ a.0)
    (is_within_lem (after_of r (command_of f) f) (after-by (function_in f) (met r f) r f (within r a.1) d))

-- whatever bytes came, and whatever was answered
pub answer-sound : (r : Record) (s f out : List ℕ) → is_sound r s ≡ true
    → is_sound (answer_of r s f out).answer.after (answer_of r s f out).store ≡ true
unfolding answer_of replied
answer-sound r s f out h = go (ltb (length out) 64) refl (heard r f) refl (is_done (verdict_on r f)) refl
  where
    go : (a : Bool) → ltb (length out) 64 ≡ a → (b : Bool) → heard r f ≡ b → (c : Bool) → is_done (verdict_on r f) ≡ c
        → is_sound (answer_of r s f out).answer.after (answer_of r s f out).store ≡ true
    go true e b g c k = simp e h
    go false e false g c k = simp (e, h, g)
    go false e true g false k = simp (e, h, g, k)
    go false e true g true k = simp (e, h, g, k) (done-sound r s f h k)

-- the record that a bench call hands back, and the store beside it
abbrev pub hands_back : Result Record RecordError → List ℕ → Bool
hands_back (Ok r) s = is_sound r s
hands_back (Err OutOfRange) s = true
hands_back (Err Unsound) s = true

-- a slice that is put leaves record and store sound, for the calls after it
pub put-sound : (r : Record) (s : List ℕ) (k : Key) (row : List ℕ) → hands_back (slice_put r s k row).result (slice_put r s k row).left ≡ true
unfolding slice_put is_sound
put-sound r s k row = go (is_sound r s) refl (is_legal k (slots_of r.minutes)) refl
  where
    go : (a : Bool) → is_sound r s ≡ a → (b : Bool) → is_legal k (slots_of r.minutes) ≡ b
        → hands_back (slice_put r s k row).result (slice_put r s k row).left ≡ true
    go false e b g = simp e
    go true e false g = simp (e, g)
    go true e true g =
        let a = both (eqb (length s) store_bytes) (is_within r) e in
        let w = within r a.1 in
        let n = lt-ltb _ places (next-in-range s r.next k (ltb-true r.next places w.next)) in
        simp (e, g)
        (ap₂ ◌&&◌ (ap (λ (n : ℕ). eqb n store_bytes) (length-put s r.next k row) ∙ a.0)
        (is_within_lem _ (remade-within r _ _ _ _ _ _ _ w w.address w.protection w.time w.telemetry n)))
