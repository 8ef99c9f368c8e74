-- Demand 2, commands that the meter does: a read, a change, a zeroing, a password and a lock that pass every check are answered 0.
use mathlib.Core.Path.{◌≡◌, refl, sym, ap, ap₂, ◌∙◌}
use mathlib.Core.Bool.{Bool, true, false, false≢true}
use mathlib.Core.List.{List}
use Prim.Native.Nat.{ℕ, ◌+◌, ◌≤◌}
use lib.Dec.{eqb}
use lib.ListN.{length}
use borrow.Author.Tests.{le-ltb, le-leb, eq-eqb}
use Rattle.std.specs.Prelude.{Ok, Result}
use Rattle.byte_numbers.specs.Number.{bytes_of}
use Rattle.byte_numbers.specs.Place.{byte_at, number_at}
use Rattle.frame.specs.Sealing.{framed}
use Rattle.parameters.specs.Table.{parameter_row, opens_to, parameter_of, known}
use Rattle.parameters.specs.declared.code.Function.{Function}
use Rattle.parameters.specs.declared.code.Function.TheVariants as function
use Rattle.parameters.specs.declared.code.Parameter.{Parameter}
use Rattle.parameters.specs.declared.code.Parameter.TheVariants as parameter
use Rattle.parameters.specs.declared.table.Row.{Row}
use Rattle.slots.specs.Day.{slots_of}
use Rattle.request.proofs.RequestLaws as request
use Rattle.request.specs.Request.{request_frame}
use Rattle.request.specs.Subject.{fields_fit, subject_of, askable}
use Rattle.request.specs.declared.request.Request.{Request}
use Rattle.meter_record.specs.declared.record.Record.{Record}
use Rattle.meter_command.specs.Access.{by_own, is_main, change_allowed, password_for, unlock_verdict, lock_verdict}
use Rattle.meter_command.specs.Judgement.{passed, checked, argument_fits, read_verdict, change_verdict, zero_verdict, verdict_by, verdict_of}
use Rattle.meter_command.specs.Command.{function_in, parameter_in, detail_in, command_of, data_in}
use Rattle.meter_command.specs.declared.access.Met.TheVariants.{Own}
use Rattle.meter_command.specs.declared.verdict.Refusal.{Refusal}
use Rattle.meter.specs.Reply.{met, verdict_on, replied, answer_of}
use Rattle.claims.specs.Demand1.{answer_number}
use Rattle.claims.specs.Demand2.{answered}
use Rattle.claims.specs.Demand2Done.{Ready}
use Rattle.claims.proofs.Reading.{unknown-shut}
use Rattle.claims.proofs.Replies.{request-read, request-parameter, request-again}

-- ---- a command that passes every check is answered 0

answered-zero : (r : Record) (s f out : List ℕ) → Ready r s f out → verdict_on r f ≡ Ok tt → answer_number (answer_of r s f out) ≡ 0
unfolding answer_of replied
answered-zero r s f out y v = simp (le-ltb (length out) 64 y.room, y.sound, y.hears, v)

zero-by : (r : Record) (s f out : List ℕ) (fn : Function) → Ready r s f out → function_in f ≡ fn → verdict_by fn (met r f) r (command_of f) f ≡ Ok tt
    → answer_number (answer_of r s f out) ≡ 0
unfolding verdict_of
zero-by r s f out fn y e v = answered-zero r s f out y (ap (λ (g : Function). verdict_by g (met r f) r (command_of f) f) e ∙ v)

all-passed : {k o l w a f : Bool} → k ≡ true → o ≡ true → l ≡ true → w ≡ true → a ≡ true → f ≡ true → checked k o l w a f ≡ Ok tt
unfolding checked passed
all-passed k o l w a f = simp (k, o, l, w, a, f)

-- ---- what can be read, changed or zeroed is known

-- a parameter that is readable, changeable or zeroable is known, since the unknown one is none of these
pub known_by : (column : Row → Bool) → column (parameter_row parameter.Unknown) ≡ false → (p : Parameter) → column (parameter_row p) ≡ true → known (parameter_row p) ≡ true
known_by column n parameter.ActivePower h = refl
known_by column n parameter.ReactivePower h = refl
known_by column n parameter.Address h = refl
known_by column n parameter.Telemetry h = refl
known_by column n parameter.SummerDate h = refl
known_by column n parameter.WinterDate h = refl
known_by column n parameter.Clock h = refl
known_by column n parameter.DisplayMask h = refl
known_by column n parameter.Slice h = refl
known_by column n parameter.Password h = refl
known_by column n parameter.SixSlices h = refl
known_by column n parameter.Unknown h = absurd (false≢true (sym n ∙ h))

-- ---- a read

request-size : (q : Request) → length (request_frame q) ≡ 8
unfolding request_frame framed bytes_of
request-size q = refl

read_by : (r : Record) (q : Request)
    → verdict_on r (request_frame q)
    ≡ checked (known (parameter_row (parameter_of q.parameter))) (opens_to q.reading (parameter_row (parameter_of q.parameter))) true true true
    (fields_fit (parameter_row (parameter_of q.parameter)).fields q (slots_of r.minutes))
unfolding verdict_of verdict_by read_verdict
read_by r q =
    let f = request_frame q in
    let seen : ℕ → Request → Result Unit Refusal = λ n x.
    let w = parameter_row (parameter_of n) in
    checked (known w) (opens_to x.reading w) (eqb (length f) 8) true true (fields_fit w.fields x (slots_of r.minutes)) in
    ap (λ (fn : Function). verdict_by fn (met r f) r (command_of f) f) (request-read q)
    ∙ ap₂ seen (request-parameter q) (request-again q)
    ∙ simp (request-size q)

-- demand 2's `read_done`: a read of figures that a meter of its interval has is answered
pub read_done : (r : Record) (s : List ℕ) (q : Request) (out : List ℕ) → Ready r s (request_frame q) out
    → askable (subject_of q (slots_of r.minutes)) ≡ true → answer_number (answered r s q out) ≡ 0
unfolding subject_of
read_done r s q out y h =
    let p = parameter_of q.parameter in
    let a = request.asked p q (slots_of r.minutes) h in
    answered-zero r s (request_frame q) out y
    (read_by r q ∙ all-passed (known_by (opens_to q.reading) (unknown-shut q.reading) p a.open-to) a.open-to refl refl refl a.fits)

-- ---- a change, a zeroing

-- demand 2's `change_done`: a change by the own address, of its length, with its access and a right argument is done
pub change_done : (r : Record) (s f out : List ℕ) → Ready r s f out → met r f ≡ Own → function_in f ≡ function.Change → let w = parameter_row (parameter_in f) in
    w.changeable ≡ true → length f ≡ 6 + w.change_bytes → change_allowed (parameter_in f) r.protection.level ≡ true
    → argument_fits (parameter_row (parameter_in f)) (detail_in f) r.telemetry (data_in f) ≡ true → answer_number (answer_of r s f out) ≡ 0
unfolding verdict_by change_verdict
change_done r s f out y m e c l a g =
    zero-by r s f out function.Change y e (all-passed (known_by (λ (w : Row). w.changeable) refl (parameter_in f) c) c (eq-eqb _ _ l) (ap by_own m) a g)

-- demand 2's `zeroing_done`: a zeroing of what can be zeroed, by the own address and with main access, is done
pub zeroing_done : (r : Record) (s f out : List ℕ) → Ready r s f out → met r f ≡ Own → function_in f ≡ function.Zero
    → (parameter_row (parameter_in f)).zeroable ≡ true → length f ≡ 6 → is_main r.protection.level ≡ true → detail_in f ≡ 0
    → answer_number (answer_of r s f out) ≡ 0
unfolding verdict_by zero_verdict
zeroing_done r s f out y m e z l a d =
    zero-by r s f out function.Zero y e (all-passed (known_by (λ (w : Row). w.zeroable) refl (parameter_in f) z) z (eq-eqb _ _ l) (ap by_own m) a
    (eq-eqb _ _ d))

-- ---- a password, a lock

-- demand 2's `unlock_done`: the right password of a level opens it
pub unlock_done : (r : Record) (s f out : List ℕ) → Ready r s f out → function_in f ≡ function.Unlock → length f ≡ 14
    → detail_in f ≤ 1 → number_at f 4 8 ≡ password_for r.passwords (detail_in f) → byte_at f 2 ≡ 0 → answer_number (answer_of r s f out) ≡ 0
unfolding verdict_by unlock_verdict
unlock_done r s f out y e l d p z =
    zero-by r s f out function.Unlock y e (simp (eq-eqb _ _ l, le-leb _ _ d, eq-eqb _ _ p, eq-eqb _ _ z))

-- demand 2's `lock_done`: a lock of its length, with its two zeros, is done whatever the level
pub lock_done : (r : Record) (s f out : List ℕ) → Ready r s f out → function_in f ≡ function.Lock → length f ≡ 6
    → byte_at f 2 ≡ 0 → detail_in f ≡ 0 → answer_number (answer_of r s f out) ≡ 0
unfolding verdict_by lock_verdict
lock_done r s f out y e l z d = zero-by r s f out function.Lock y e (simp (eq-eqb _ _ l, eq-eqb _ _ z, eq-eqb _ _ d))
