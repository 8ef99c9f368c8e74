-- What C is given of the bench meter's calls, where the record is lent bytes. Source: document 01, "The bench meter's record" and "Refusal numbers".
use Rattle.meter_record.specs.declared.record.RecordError.{RecordError}
use Rattle.meter_clock.specs.declared.season.Season.{Season}
use Rattle.std.specs.Prelude.{cond, List, [], ◌∷◌, ℕ, eqb, ltb, length, Err, None, Ok, Option, Result, Some}
use Rattle.std.specs.Float.{binary32}
use Rattle.std.specs.Float.Ieee.{of_bits}
use Rattle.refusal.specs.Outcome.{Outcome, outcome}
use Rattle.byte_numbers.specs.Place.{written}
use Rattle.calendar.specs.declared.time.DateTime.{DateTime}
use Rattle.wire_values.specs.declared.power.Phases.{Phases}
use Rattle.wire_values.specs.declared.telemetry.Telemetry.{Telemetry}
use Rattle.frame.specs.Layout.{longest}
use Rattle.slots.specs.declared.key.Key.{Key}
use Rattle.meter_record.specs.Record.{made, second_of, set_powers, set_ratios, number_of}
use Rattle.meter_record.specs.declared.record.Ratios.{Ratios}
use Rattle.meter_record.specs.declared.record.Record.{Record}
use Rattle.meter_record.specs.declared.record.RecordError.TheVariants as answer
use Rattle.meter_record_bytes.specs.Record.{record_size, record_bytes}
use Rattle.meter_record_bytes.specs.Time.{season_of}
use Rattle.meter_command.specs.Command.{command_of}
use Rattle.meter_command.specs.Verdict as verdict
use Rattle.meter_reply_data.specs.Reading.{is_read}
use Rattle.meter.specs.Bench.{slice_put}
use Rattle.meter.specs.Reply as reply
use Rattle.meter.specs.Reply.{answer_of}
use Rattle.meter.specs.declared.reply.Answered.{Answered}
use Rattle.metlazuel.specs.Calls.{unread_number}

-- ---- the numbers that C hands over, as the figures that they are

abbrev pub telemetry_from : ℕ → ℕ → ℕ → Telemetry
telemetry_from k ke reserve = record { k = k; ke = ke; reserve = reserve }

abbrev pub clock_from : ℕ → ℕ → ℕ → ℕ → ℕ → ℕ → DateTime
clock_from year month day hour minute second =
    record { date = record { year = year; month = month; day = day }; hour = hour; minute = minute; second = second }

abbrev pub key : ℕ → ℕ → ℕ → Key
key month day number = record { month = month; day = day; number = number }

-- E+, E-, R+, R-
abbrev pub row : ℕ → ℕ → ℕ → ℕ → List ℕ
row e+ e- r+ r- = e+ ∷ e- ∷ r+ ∷ r- ∷ []

abbrev pub phases_from : ℕ → ℕ → ℕ → Phases
phases_from a b c = record { a = of_bits binary32 a; b = of_bits binary32 b; c = of_bits binary32 c }

abbrev pub ratios_from : ℕ → ℕ → Ratios
ratios_from ki ku = record { ki = ki; ku = ku }

-- ---- the bench's calls on what was read

-- a call on the record that was read, or what is said of bytes that are no record
abbrev pub on_read : {A : Type 0} → Option Record → (Record → A) → A → A
on_read (Some r) call none = call r
on_read None call none = none

made_by : Option Season → ℕ → ℕ → Telemetry → DateTime → Result Record RecordError
made_by (Some s) address minutes telemetry clock = made address minutes telemetry clock s
made_by None address minutes telemetry clock = Err answer.OutOfRange

-- a meter made; another season's byte is out of range
unfoldable pub made_in : ℕ → ℕ → Telemetry → DateTime → ℕ → Result Record RecordError
unfolding made_by
made_in address minutes telemetry clock season = made_by (season_of season) address minutes telemetry clock

-- the four calls on a record: bytes that are none count as one outside its ranges
unfoldable pub second_in : Option Record → Result Record RecordError
second_in x = on_read x second_of (Err answer.Unsound)

unfoldable pub powers_in : Option Record → ℕ → Phases → Result Record RecordError
powers_in x n p = on_read x (λ (r : Record). set_powers r n p) (Err answer.Unsound)

unfoldable pub ratios_in : Option Record → Ratios → Result Record RecordError
ratios_in x k = on_read x (λ (r : Record). set_ratios r k) (Err answer.Unsound)

unfoldable pub slice_in : Option Record → List ℕ → Key → List ℕ → Outcome (Result Record RecordError) (List ℕ)
slice_in x s k row = on_read x (λ (r : Record). slice_put r s k row) (outcome (Err answer.Unsound) s)

-- the record's bytes after them: those of the record after it, and untouched by a refusal
unfoldable pub bytes_after : Result Record RecordError → List ℕ → List ℕ
bytes_after (Ok r) bs = written bs 0 (record_bytes r)
bytes_after (Err refusal) bs = bs

abbrev pub bench_for_c : Result Record RecordError → List ℕ → Outcome ℕ (List ℕ)
bench_for_c a bs = outcome (number_of a) (bytes_after a bs)

-- 1, then 27
unfoldable pub make_for_c : Result Record RecordError → List ℕ → Outcome ℕ (List ℕ)
make_for_c a bs = cond (ltb (length bs) record_size) (outcome 1 bs) (bench_for_c a bs)

-- left: the record's bytes and the store
abbrev pub put_for_c : Outcome (Result Record RecordError) (List ℕ) → List ℕ → Outcome ℕ (List ℕ × List ℕ)
put_for_c o bs = outcome (number_of o.result) (bytes_after o.result bs, o.left)

-- ---- the answer to a frame

-- the record's bytes after it: a refusal leaves them as they were, and a read too, which changes nothing of the record; any other command
-- that is done leaves those of the record after it
unfoldable pub bytes_left : Answered → List ℕ → List ℕ → List ℕ
bytes_left a f bs = cond (verdict.is_done a.verdict) (cond (is_read (command_of f).function) bs (written bs 0 (record_bytes a.after))) bs

-- the lent length: the reply's, which has six bytes or more; untouched where the meter sends none
unfoldable pub sent_length : ℕ → ℕ → ℕ
sent_length sent before = cond (eqb sent 0) before sent

-- left: the reply's length, the record's bytes, the store and the output
abbrev pub answered_for_c : reply.Outcome → ℕ → List ℕ → List ℕ → Outcome ℕ (ℕ × List ℕ × List ℕ × List ℕ)
answered_for_c o before f bs =
    outcome (verdict.number_of o.answer.verdict) (sent_length o.answer.length before, bytes_left o.answer f bs, o.store, o.out)

unfoldable pub answer_for_c : Option Record → ℕ → List ℕ → List ℕ → List ℕ → List ℕ → Outcome ℕ (ℕ × List ℕ × List ℕ × List ℕ)
answer_for_c x before bs s f out =
    on_read x (λ (r : Record). answered_for_c (answer_of r s f out) before f bs) (outcome (unread_number (length out) longest) (before, bs, s, out))
