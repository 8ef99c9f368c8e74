-- A read request sent to the bench meter and its reply decoded. Source: document 01, "Refusal numbers", the meter's and the reader's; what it
-- answers with 0 are the record's own figures (`inquired` of demand 2).
use Rattle.meter_command.specs.declared.verdict.Refusal.{Refusal}
use Rattle.refusal.specs.Number.{answer_number}
use Rattle.std.specs.Prelude.{Bool, true, false, cond, List, ℕ, ltb, length, take, Err, Ok, Result}
use Rattle.frame.specs.Layout.{longest}
use Rattle.request.specs.Request.{request_frame}
use Rattle.request.specs.Subject.{subject_of, most_slots, askable}
use Rattle.request.specs.declared.request.Request.{Request}
use Rattle.meter_record.specs.declared.record.Record.{Record}
use Rattle.meter_command.specs.declared.verdict.Refusal.TheVariants as verdict
use Rattle.meter.specs.Reply as meter
use Rattle.meter.specs.Reply.{is_sound, answer_of}
use Rattle.reader.specs.Reply as reader
use Rattle.reader.specs.Reply.{decoded_of}
use Rattle.reader.specs.declared.reply.Decoded.{Decoded}
use Rattle.reader.specs.declared.reply.DecodeError.{DecodeError}
use Rattle.reader.specs.declared.reply.DecodeError.TheVariants as decoded_error
use Rattle.meter_round_trip.specs.declared.InquiryError.{InquiryError}
use Rattle.meter_round_trip.specs.declared.InquiryError.TheVariants.{TooShort, Unsound, Silent, Undecoded}

-- document 01's numbers
abbrev pub error_number : InquiryError → ℕ
error_number TooShort = 1
error_number Unsound = 28
error_number Silent = 2
error_number (Undecoded e) = reader.error_number e

abbrev pub number_of : Result Decoded InquiryError → ℕ
number_of = answer_number error_number

-- what the reader says, as an inquiry's answer
abbrev pub told : Result Decoded DecodeError → Result Decoded InquiryError
told (Ok d) = Ok d
told (Err e) = Err (Undecoded e)

abbrev pub is_silent : Result Unit Refusal → Bool
is_silent (Err verdict.Silent) = true
is_silent (Ok tt) = false
is_silent (Err verdict.TooShort) = false
is_silent (Err verdict.Unsound) = false
is_silent (Err verdict.UnknownFunction) = false
is_silent (Err verdict.UnknownParameter) = false
is_silent (Err verdict.NotOpen) = false
is_silent (Err verdict.WrongLength) = false
is_silent (Err verdict.ByAddressZero) = false
is_silent (Err verdict.NoAccess) = false
is_silent (Err verdict.WrongArgument) = false

-- an answer, and what the store and the output then hold
pub record Outcome : Type 0 where
  pub answer : Result Decoded InquiryError
  pub store : List ℕ
  pub out : List ℕ

abbrev pub outcome : Result Decoded InquiryError → List ℕ → List ℕ → Outcome
outcome a s out = record { answer = a; store = s; out = out }

-- the meter's reply as the reader decodes it
unfoldable pub told_of : meter.Outcome → Request → Outcome
told_of o q =
    cond (is_silent o.answer.verdict) (outcome (Err Silent) o.store o.out)
    (outcome (told (decoded_of q (take o.answer.length o.out))) o.store o.out)

unfoldable pub asked : Record → List ℕ → Request → List ℕ → Outcome
unfolding told_of
asked r s q out = told_of (answer_of r s (request_frame q) out) q

-- 1, 28, then 27 for a request that no record would answer with 0, 2 for silence, and what the reader says
unfoldable pub inquired : Record → List ℕ → Request → List ℕ → Outcome
unfolding asked
inquired r s q out =
    cond (ltb (length out) longest) (outcome (Err TooShort) s out)
    (cond (is_sound r s)
    (cond (askable (subject_of q most_slots)) (asked r s q out) (outcome (told (Err decoded_error.OutOfRange)) s out))
    (outcome (Err Unsound) s out))
