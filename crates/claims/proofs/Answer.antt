-- Demand 1, the meter's answer: a command that it heard is done or refused by 10 to 16, and what is refused changes nothing but the output.
use mathlib.Core.Path.{◌≡◌, refl}
use mathlib.Core.Bool.{Bool, true, false, cond, ◌||◌, false≢true}
use mathlib.Core.List.{List}
use Prim.Native.Nat.{ℕ, ◌+◌}
use native.Mathlib.Omega.{arith}
use lib.Dec.{eqb, leb, ltb}
use lib.ListN.{length, drop}
use Rattle.std.specs.Prelude.{Err, Ok, Result}
use Rattle.test_laws.proofs.Test.{either}
use Rattle.byte_numbers.specs.Place.{byte_at, number_at, written}
use Rattle.byte_numbers.proofs.PlaceLaws.{drop-written}
use Rattle.frame.specs.Layout.{longest, bare_size}
use Rattle.parameters.specs.Table.{parameter_row, opens_to, known}
use Rattle.frame.specs.Sealing.{framed}
use Rattle.frame.proofs.SealingLaws.{length-framed}
use Rattle.parameters.specs.declared.code.Function.{Function}
use Rattle.parameters.specs.declared.code.Function.TheVariants as function
use Rattle.parameters.specs.declared.code.Parameter.{Parameter}
use Rattle.slots.specs.Day.{slots_of}
use Rattle.request.specs.Subject.{fields_fit}
use Rattle.meter_record.specs.declared.record.Record.{Record}
use Rattle.meter_command.specs.Access.{by_own, is_main, change_allowed, password_for, unlock_verdict, lock_verdict}
use Rattle.meter_command.specs.Judgement.{passed, checked, argument_fits, read_verdict, change_verdict, zero_verdict, verdict_by, verdict_of}
use Rattle.meter_command.specs.Command.{function_in, parameter_in, request_in, command_of, detail_in, data_in}
use Rattle.meter_command.specs.Verdict.{number_of}
use Rattle.meter_command.specs.declared.access.Met.{Met}
use Rattle.meter_command.specs.declared.verdict.Refusal.{Refusal}
use Rattle.meter_command.specs.declared.verdict.Refusal.TheVariants as verdict
use Rattle.meter.specs.Reply as meter
use Rattle.meter.specs.Reply.{is_sound, met, heard, verdict_on, head_of, unheard, refused, replied, answer_of}
use Rattle.claims.specs.Demand1.{in_table, Ends, gives_frame, answer_number}

-- ---- a command that is heard

-- a verdict of a command that was heard: 0, or one that has a refusal frame
unfoldable pub Judged : Result Unit Refusal → Type 0
Judged v = (eqb (number_of v) 0 || gives_frame (number_of v)) ≡ true

checked-judged : (a b c d e g : Bool) → Judged (checked a b c d e g)
unfolding Judged checked passed
checked-judged a b c d e g =
    either Judged a (either Judged b (either Judged c (either Judged d (either Judged e (either Judged g refl refl) refl) refl) refl) refl) refl

module _ (r : Record) (f : List ℕ) where
  p : Parameter
  p = parameter_in f

  judged-by : (fn : Function) (m : Met) → Judged (verdict_by fn m r (command_of f) f)
  unfolding Judged p verdict_by read_verdict change_verdict zero_verdict unlock_verdict lock_verdict
  judged-by (function.Read reading) m =
      checked-judged (known (parameter_row p)) (opens_to (request_in f).reading (parameter_row p)) (eqb (length f) 8) true true
      (fields_fit (parameter_row p).fields (request_in f) (slots_of r.minutes))
  judged-by function.Change m =
      checked-judged (known (parameter_row p)) (parameter_row p).changeable (eqb (length f) (6 + (parameter_row p).change_bytes)) (by_own m) (change_allowed p r.protection.level)
      (argument_fits (parameter_row p) (detail_in f) r.telemetry (data_in f))
  judged-by function.Zero m =
      checked-judged (known (parameter_row p)) (parameter_row p).zeroable (eqb (length f) 6) (by_own m) (is_main r.protection.level) (eqb (byte_at f 3) 0)
  judged-by function.Unlock m =
      either Judged (eqb (length f) 14)
      (either Judged (leb (byte_at f 3) 1)
      (either Judged (eqb (number_at f 4 8) (password_for r.passwords (byte_at f 3))) (either Judged (eqb (byte_at f 2) 0) refl refl) refl)
      refl)
      refl
  judged-by function.Lock m =
      either Judged (eqb (length f) 6) (either Judged (eqb (byte_at f 2) 0) (either Judged (eqb (byte_at f 3) 0) refl refl) refl) refl
  judged-by function.Unknown m = refl

  -- the meter's verdict on any frame is such a one
  pub judged : Judged (verdict_on r f)
  unfolding verdict_of
  judged = judged-by (function_in f) (met r f)

-- ---- the answer: record and store, and of a refused command the output and how many of its bytes are sent

record AnswerEnds (r : Record) (s f out : List ℕ) (o : meter.Outcome) : Type 0 where
  ends : Ends {A = Record × List ℕ} (answer_number o) (r, s) (o.answer.after, o.store)
  output : (answer_number o ≡ 0 → ⊥) → o.out ≡ cond (gives_frame (answer_number o)) (written out 0 (framed (head_of o.answer.verdict (command_of f)))) out
  sent : (answer_number o ≡ 0 → ⊥) → o.answer.length ≡ cond (gives_frame (answer_number o)) bare_size 0

module _ (r : Record) (s f out : List ℕ) where
  unheard-ends : (v : Result Unit Refusal) → in_table (number_of v) ≡ true → gives_frame (number_of v) ≡ false → AnswerEnds r s f out (unheard v r s out)
  unheard-ends v t g = record { ends = record { in-table = t; unchanged = λ n. refl }; output = λ n. simp g; sent = λ n. simp g }

  refused-ends : (v : Result Unit Refusal) → in_table (number_of v) ≡ true → gives_frame (number_of v) ≡ true → AnswerEnds r s f out (refused v r s f out)
  refused-ends v t g = record { ends = record { in-table = t; unchanged = λ n. refl }; output = λ n. simp g; sent = λ n. simp g }

  replied-ends : (v : Result Unit Refusal) → Judged v → AnswerEnds r s f out (replied v r s f out)
  unfolding Judged replied in_table
  replied-ends (Ok tt) j =
      record { ends = record { in-table = refl; unchanged = λ n. absurd (n refl) }; output = λ n. absurd (n refl); sent = λ n. absurd (n refl) }
  replied-ends (Err verdict.TooShort) j = absurd (false≢true j)
  replied-ends (Err verdict.Unsound) j = absurd (false≢true j)
  replied-ends (Err verdict.Silent) j = absurd (false≢true j)
  replied-ends (Err verdict.UnknownFunction) j = refused-ends (Err verdict.UnknownFunction) refl refl
  replied-ends (Err verdict.UnknownParameter) j = refused-ends (Err verdict.UnknownParameter) refl refl
  replied-ends (Err verdict.NotOpen) j = refused-ends (Err verdict.NotOpen) refl refl
  replied-ends (Err verdict.WrongLength) j = refused-ends (Err verdict.WrongLength) refl refl
  replied-ends (Err verdict.ByAddressZero) j = refused-ends (Err verdict.ByAddressZero) refl refl
  replied-ends (Err verdict.NoAccess) j = refused-ends (Err verdict.NoAccess) refl refl
  replied-ends (Err verdict.WrongArgument) j = refused-ends (Err verdict.WrongArgument) refl refl

  answer-ends : AnswerEnds r s f out (answer_of r s f out)
  unfolding answer_of in_table
  answer-ends =
      either (AnswerEnds r s f out) (ltb (length out) longest) (unheard-ends (Err verdict.TooShort) refl refl)
      (either (AnswerEnds r s f out) (is_sound r s)
      (either (AnswerEnds r s f out) (heard r f) (replied-ends (verdict_on r f) (judged r f)) (unheard-ends (Err verdict.Silent) refl refl))
      (unheard-ends (Err verdict.Unsound) refl refl))

  -- demand 1's `answer`: the meter's number is the table's, and a refused command leaves record and store
  pub answer : let o = answer_of r s f out in Ends {A = Record × List ℕ} (answer_number o) (r, s) (o.answer.after, o.store)
  answer = answer-ends.ends

  -- demand 1's `answer_output`: a refused command puts the refusal frame into the output where the table gives one, else nothing
  pub answer_output : let o = answer_of r s f out in (answer_number o ≡ 0 → ⊥)
      → o.out ≡ cond (gives_frame (answer_number o)) (written out 0 (framed (head_of o.answer.verdict (command_of f)))) out
  answer_output = answer-ends.output

  -- demand 1's `answer_length`: and so many bytes are the reply, the short frame's or none
  pub answer_length : let o = answer_of r s f out in (answer_number o ≡ 0 → ⊥) → o.answer.length ≡ cond (gives_frame (answer_number o)) bare_size 0
  answer_length = answer-ends.sent

-- ---- the refusal frame is short: six bytes, and the output past them is as it was

-- demand 1's `frame_short`: a refusal frame has six bytes
pub frame_short : (v : Result Unit Refusal) (f : List ℕ) → length (framed (head_of v (command_of f))) ≡ bare_size
unfolding head_of
frame_short v f = length-framed (head_of v (command_of f))

-- demand 1's `past_frame`: the output behind it is as it was
pub past_frame : (v : Result Unit Refusal) (f out : List ℕ) → drop bare_size (written out 0 (framed (head_of v (command_of f)))) ≡ drop bare_size out
past_frame v f out = drop-written bare_size out 0 (framed (head_of v (command_of f))) (omega (arith, frame_short v f))
