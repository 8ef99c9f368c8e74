-- What a line of the bench meter makes of record, store and output, and what it is answered. Source: the console's page, "Bench meter"; what a call
-- answers is document 01's.
use Rattle.std.specs.Prelude.{ℕ, cond, List, [], ◌∷◌, eqb, replicate, None, Option, Some}
use Rattle.refusal.specs.Outcome.{Outcome, outcome, check}
use Rattle.text.specs.Ascii.{ascii}
use Rattle.frame.specs.Layout.{longest}
use Rattle.parameters.specs.declared.code.Reading.{Reading}
use Rattle.parameters.specs.declared.code.Reading.TheVariants.{Stored, Displayed}
use Rattle.meter_record.specs.Record as record_of
use Rattle.meter_record.specs.declared.record.Record.{Record}
use Rattle.meter_command.specs.Verdict.{number_of}
use Rattle.meter.specs.Reply as meter
use Rattle.meter_round_trip.specs.Inquiry as inquiry
use Rattle.console.specs.Form.{place_of, is_form}
use Rattle.console.specs.Line.{part_of, spaces_in, word_at}
use Rattle.console.specs.Value.{bytes_read}
use Rattle.console_meter.specs.SetLines.{LineAnswer, record_after, byte, set_line}
use Rattle.console_log.specs.Words.{request_in}
use Rattle.console_meter.specs.declared.answer.Answer.{Answer}
use Rattle.console_meter.specs.declared.answer.Answer.TheVariants.{Unread, Number, Reply, Recorded, Shown, Inquired}
use Rattle.console_meter.specs.declared.answer.Called.{Called}

-- what a line is lent to write in: the store of slices, and an output for the meter's reply
pub record Left : Type 0 where
  pub store : List ℕ
  pub out : List ℕ

abbrev pub left : List ℕ → List ℕ → Left
left s out = record { store = s; out = out }

abbrev pub called : Answer → Record → Called
called answer after = record { answer = answer; after = after }

-- "A line that it cannot read .. does nothing"
abbrev pub unread : Record → Called
unread r = called Unread r

-- ---- meter, power, slice, second, ratio: the number, and the record that stands after it

unfoldable pub set_answered : Record → LineAnswer → Called
set_answered r (Some a) = called (Number (record_of.number_of a)) (record_after a r)
set_answered r None = unread r

abbrev pub set_of : Record → Outcome LineAnswer (List ℕ) → Outcome Called (List ℕ)
set_of r o = outcome (set_answered r o.result) o.left

-- ---- record, shown: no words behind the first; what is printed is the record's

unfoldable pub alone : List ℕ → Answer → Record → Called
alone line answer r = cond (eqb (spaces_in line) 0) (called answer r) (unread r)

-- ---- frame BYTES: "number and reply, also for a refusal frame"

abbrev pub replied : meter.Outcome → Outcome Called Left
replied o = outcome (called (Reply (number_of o.answer.verdict) o.answer.length) o.answer.after) (left o.store o.out)

unfoldable pub frame_of : Record → List ℕ → List ℕ → List ℕ → Outcome Called Left
frame_of r f s out = replied (meter.answer_of r s f out)

-- the bytes that were read are so many of a buffer's first
unfoldable pub frame_in : Option ℕ → List ℕ → Record → List ℕ → List ℕ → Outcome Called Left
unfolding frame_of
frame_in (Some n) buffer r s out = frame_of r (part_of n buffer) s out
frame_in None buffer r s out = outcome (unread r) (left s out)

unfoldable pub frame_line : Record → List ℕ → List ℕ → List ℕ → Outcome Called Left
unfolding frame_in
frame_line r line s out =
    let o = bytes_read (word_at 1 line) (replicate 2048 0) in
    check (eqb (spaces_in line) 1) (outcome (unread r) (left s out)) (frame_in o.result o.left r s out)

-- ---- inquire and inquire4 ADDRESS PARAMETER OFFSET TARIFF DETAIL: "a read request sent to the console's own meter and its reply decoded"

abbrev pub told : Record → inquiry.Outcome → Outcome Called Left
told r o = outcome (called (Inquired o.answer) r) (left o.store o.out)

unfoldable pub inquire_line : Reading → Record → List ℕ → List ℕ → List ℕ → Outcome Called Left
inquire_line reading r line s out =
    cond (is_form line (byte ∷ byte ∷ byte ∷ byte ∷ byte ∷ [])) (told r (inquiry.inquired r s (request_in reading line) out))
    (outcome (unread r) (left s out))

-- ---- all of them by their names

abbrev pub ask_names : List ℕ
ask_names = ascii "frame record shown inquire inquire4"

-- the output stays as it was
abbrev pub with_out : List ℕ → Outcome Called (List ℕ) → Outcome Called Left
with_out out o = outcome o.result (left o.left out)

-- by the first word's place among the names; any other line is one that sets the meter, or none
unfoldable pub called_by : ℕ → Record → List ℕ → List ℕ → List ℕ → Outcome Called Left
called_by place r line s out =
    cond (eqb place 0) (frame_line r line s out)
    (cond (eqb place 1) (outcome (alone line Recorded r) (left s out))
    (cond (eqb place 2) (outcome (alone line Shown r) (left s out))
    (cond (eqb place 3) (inquire_line Stored r line s out)
    (cond (eqb place 4) (inquire_line Displayed r line s out) (with_out out (set_of r (set_line r line s)))))))

unfoldable pub called_line : Record → List ℕ → List ℕ → List ℕ → Outcome Called Left
unfolding called_by
called_line r line s out = called_by (place_of (word_at 0 line) ask_names) r line s out

-- the meter after a line: its record, and its store. The output of a program is as long as the longest frame
unfoldable pub meter_after : Record → List ℕ → List ℕ → Outcome Record (List ℕ)
meter_after r line s = let o = called_line r line s (replicate longest 0) in outcome o.result.after o.left.store
