-- Demand 2, the address that a command came by: what is done of the changes and zeroings met the meter's own address, so by 0 none is; past 11 to 13
-- such a one is 16.
use mathlib.Core.Path.{◌≡◌, refl, sym, ap, ◌∙◌}
use mathlib.Core.Bool.{Bool, true, false, cond, ◌||◌, false≢true}
use mathlib.Core.List.{List}
use Prim.Native.Nat.{ℕ, ◌+◌, ◌≤◌}
use native.Mathlib.Omega.{arith}
use lib.Dec.{eqb}
use lib.ListN.{length}
use borrow.Author.Tests.{le-ltb, eq-eqb, eqb-true}
use Rattle.std.specs.Prelude.{Err, Ok, Result}
use Rattle.test_laws.proofs.Test.{both}
use Rattle.byte_numbers.specs.Place.{byte_at, written}
use Rattle.byte_numbers.proofs.PlaceLaws.{byte_at-written}
use Rattle.frame.specs.Sealing.{framed, is_sealed}
use Rattle.parameters.specs.Table.{parameter_row}
use Rattle.parameters.specs.declared.code.Function.{Function}
use Rattle.parameters.specs.declared.code.Function.TheVariants as function
use Rattle.parameters.specs.declared.table.Row.{Row}
use Rattle.meter_record.specs.declared.record.Record.{Record}
use Rattle.meter_command.specs.Access.{by_own, is_main, change_allowed}
use Rattle.meter_command.specs.Judgement.{passed, checked, argument_fits, change_verdict, zero_verdict, verdict_by, verdict_of}
use Rattle.meter_command.specs.Command.{function_in, parameter_in, command_of, detail_in, data_in}
use Rattle.meter_command.specs.Verdict.{number_of, result_of}
use Rattle.meter_command.specs.declared.access.Met.{Met}
use Rattle.meter_command.specs.declared.access.Met.TheVariants.{Own, Zero, Neither}
use Rattle.meter_command.specs.declared.verdict.Refusal.{Refusal}
use Rattle.meter_command.specs.declared.verdict.Refusal.TheVariants.{ByAddressZero}
use Rattle.meter_command.specs.declared.verdict.Refusal.TheVariants as verdict
use Rattle.meter.specs.Reply.{met, head_of, replied, answer_of}
use Rattle.claims.specs.Changes.{Leaves}
use Rattle.claims.specs.Demand1.{answer_number, gives_frame}
use Rattle.claims.specs.Demand2ByZero.{changes, form_fits}
use Rattle.claims.specs.Demand2Done.{Ready}
use Rattle.claims.proofs.Answer.{answer_output, frame_short}
use Rattle.claims.proofs.Changes.{change, zeroing, refused-leaves}
use Rattle.claims.proofs.Done.{known_by}

-- ---- its own address

met-own : (r : Record) (f : List ℕ) → met r f ≡ Own → (byte_at f 0 ≡ r.address) × (byte_at f 0 ≡ 0 → ⊥)
unfolding met
met-own r f h = go (is_sealed f) (eqb (byte_at f 0) 0) refl (eqb (byte_at f 0) r.address) refl h
  where
    go : (a b : Bool) → eqb (byte_at f 0) 0 ≡ b → (c : Bool) → eqb (byte_at f 0) r.address ≡ c → cond a (cond b Zero (cond c Own Neither)) Neither ≡ Own
        → (byte_at f 0 ≡ r.address) × (byte_at f 0 ≡ 0 → ⊥)
    go false b e c k m = absurd (false≢true (ap by_own m))
    go true true e c k m = absurd (false≢true (ap by_own m))
    go true false e false k m = absurd (false≢true (ap by_own m))
    go true false e true k m = (eqb-true (byte_at f 0) r.address k, λ z. false≢true (sym e ∙ eq-eqb (byte_at f 0) 0 z))

-- demand 2's `came_by_own`, CR 6: a change or zeroing that was done came by the meter's own address and not by 0
pub came_by_own : (r : Record) (s f out : List ℕ) → changes (function_in f) ≡ true → answer_number (answer_of r s f out) ≡ 0
    → (byte_at f 0 ≡ r.address) × (byte_at f 0 ≡ 0 → ⊥)
came_by_own r s f out c h = met-own r f (go (function_in f) refl c)
  where
    go : (fn : Function) → function_in f ≡ fn → changes fn ≡ true → met r f ≡ Own
    go function.Change e k = (change r s f out e h).by-own
    go function.Zero e k = (zeroing r s f out e h).by-own
    go (function.Read reading) e k = absurd (false≢true k)
    go function.Unlock e k = absurd (false≢true k)
    go function.Lock e k = absurd (false≢true k)
    go function.Unknown e k = absurd (false≢true k)

-- ---- address 0

-- demand 2's `by_zero_refused`, CR 6: one by 0 is never answered 0, and leaves record and store
pub by_zero_refused : (r : Record) (s f out : List ℕ) → changes (function_in f) ≡ true → byte_at f 0 ≡ 0
    → Leaves r s (answer_of r s f out) × (answer_number (answer_of r s f out) ≡ 0 → ⊥)
by_zero_refused r s f out c z =
    (refused-leaves r s f out (λ h. (came_by_own r s f out c h).1 z), λ h. (came_by_own r s f out c h).1 z)

refused-by-zero : {k o l : Bool} (a f : Bool) → k ≡ true → o ≡ true → l ≡ true → checked k o l false a f ≡ Err ByAddressZero
unfolding checked passed
refused-by-zero a f k o l = simp (k, o, l)

zero-verdict : (fn : Function) (r : Record) (f : List ℕ) → changes fn ≡ true → form_fits fn f ≡ true → verdict_by fn Zero r (command_of f) f ≡ Err ByAddressZero
unfolding verdict_by change_verdict zero_verdict
zero-verdict function.Change r f c h =
    let w = both (parameter_row (parameter_in f)).changeable (eqb (length f) (6 + (parameter_row (parameter_in f)).change_bytes)) h in
    refused-by-zero (change_allowed (parameter_in f) r.protection.level) (argument_fits (parameter_row (parameter_in f)) (detail_in f) r.telemetry (data_in f))
    (known_by (λ (x : Row). x.changeable) refl (parameter_in f) w.0) w.0 w.1
zero-verdict function.Zero r f c h =
    let w = both (parameter_row (parameter_in f)).zeroable (eqb (length f) 6) h in
    refused-by-zero (is_main r.protection.level) (eqb (byte_at f 3) 0)
    (known_by (λ (x : Row). x.zeroable) refl (parameter_in f) w.0) w.0 w.1
zero-verdict (function.Read reading) r f c h = absurd (false≢true c)
zero-verdict function.Unlock r f c h = absurd (false≢true c)
zero-verdict function.Lock r f c h = absurd (false≢true c)
zero-verdict function.Unknown r f c h = absurd (false≢true c)

-- demand 2's `sixteen`, CR 6: one by 0 that passes 11, 12 and 13 is 16, whatever the access and the argument
pub sixteen : (r : Record) (s f out : List ℕ) → Ready r s f out → met r f ≡ Zero → changes (function_in f) ≡ true
    → form_fits (function_in f) f ≡ true → answer_number (answer_of r s f out) ≡ 16
unfolding answer_of replied verdict_of
sixteen r s f out y m c h =
    let v : verdict_of (met r f) r (command_of f) f ≡ Err ByAddressZero = ap (λ (x : Met). verdict_by (function_in f) x r (command_of f) f) m ∙ zero-verdict (function_in f) r f c h in
    simp (le-ltb (length out) 64 y.room, y.sound, y.hears, v)

-- ---- the result byte

four : (v : Result Unit Refusal) → (eqb (number_of v) 14 || eqb (number_of v) 16) ≡ true → (result_of v ≡ 4) × (gives_frame (number_of v) ≡ true)
four (Err verdict.NoAccess) h = (refl, refl)
four (Err verdict.ByAddressZero) h = (refl, refl)
four (Ok tt) h = absurd (false≢true h)
four (Err verdict.TooShort) h = absurd (false≢true h)
four (Err verdict.Unsound) h = absurd (false≢true h)
four (Err verdict.Silent) h = absurd (false≢true h)
four (Err verdict.UnknownFunction) h = absurd (false≢true h)
four (Err verdict.UnknownParameter) h = absurd (false≢true h)
four (Err verdict.NotOpen) h = absurd (false≢true h)
four (Err verdict.WrongLength) h = absurd (false≢true h)
four (Err verdict.WrongArgument) h = absurd (false≢true h)

-- demand 2's `result`, CR 6: the refusal frames of 14 and 16 have Appendix B's 4 for their result
pub result : (r : Record) (s f out : List ℕ) → let o = answer_of r s f out in 64 ≤ length out → (eqb (answer_number o) 14 || eqb (answer_number o) 16) ≡ true
    → byte_at o.out 3 ≡ 4
unfolding head_of framed
result r s f out room h =
    let o = answer_of r s f out in
    let v = o.answer.verdict in
    let w = four v h in
    let frame = framed (head_of v (command_of f)) in
    let refused : answer_number o ≡ 0 → ⊥ = λ z. false≢true (ap (λ (n : ℕ). eqb n 14 || eqb n 16) (sym z) ∙ h) in
    let n : length frame ≡ 6 = frame_short v f in
    ap (λ (x : List ℕ). byte_at x 3) (answer_output r s f out refused ∙ ap (λ (b : Bool). cond b (written out 0 frame) out) w.1)
    ∙ byte_at-written out 0 frame 3 (omega (arith, n)) (omega (arith, room))
    ∙ w.0
