-- What a poll asks a meter before the log's intervals. Source: document 01, Appendix A's parameters 32 (clock), 24 (telemetry, with Ke) and 36
-- (a slice); "Every day has 48 or 96 slots": a meter of 30 minutes refuses slice number 48, and one of 15 minutes answers.
use Rattle.std.specs.Prelude.{ℕ, ◌+◌, Bool, true, false, List, eqb}
use Rattle.parameters.specs.Code.{read}
use Rattle.parameters.specs.declared.code.Reading.TheVariants.{Stored}
use Rattle.frame.specs.Layout.{bare_size}
use Rattle.request.specs.Subject.{subject_of, data_bytes, most_slots}
use Rattle.request.specs.declared.request.Request.{Request}
use Rattle.wire_values.specs.Clock.{date_time_of}
use Rattle.wire_values.specs.Telemetry.{telemetry_of}
use Rattle.reader.specs.Form.{reply_of, if_reply}
use Rattle.reader.specs.Rows.{reply_data}
use Rattle.log_header.specs.declared.header.Header.{Header}
use Rattle.polling.specs.declared.question.Question.{Question}
use Rattle.polling.specs.declared.question.Question.TheVariants as question
use Rattle.polling.specs.declared.question.Learned.{Learned}
use Rattle.polling.specs.declared.question.Learned.TheVariants as learned

-- the request of a question; the slice is number 48 of 1 January
unfoldable pub question_of : Question → ℕ → Request
question_of question.Clock a = record { reading = Stored; address = a; parameter = 32; offset = 0; tariff = 0; detail = 0 }
question_of question.Weight a = record { reading = Stored; address = a; parameter = 24; offset = 0; tariff = 0; detail = 0 }
question_of question.Interval a = record { reading = Stored; address = a; parameter = 36; offset = 1; tariff = 1; detail = 48 }

-- the bytes of the reply to a request with result 0
unfoldable pub full_size : Request → ℕ
full_size r = bare_size + data_bytes (subject_of r most_slots)

-- what the data of a reply with result 0 tell
unfoldable pub figure_of : Question → List ℕ → Learned
figure_of question.Clock bytes = learned.Clock (date_time_of bytes)
figure_of question.Weight bytes = learned.Ke (telemetry_of bytes).ke
figure_of question.Interval bytes = learned.Minutes 15

-- what a refusal tells: a meter of 30 minutes has no such slice
unfoldable pub refusal_of : Question → ℕ → Learned
refusal_of question.Clock result = learned.Refused result
refusal_of question.Weight result = learned.Refused result
refusal_of question.Interval result = learned.Minutes 30

-- what a reply y to a question tells, by the reader's one test
unfoldable pub learned_of : Question → ℕ → List ℕ → Learned
learned_of q a y =
    let r = question_of q a in
    if_reply (reply_of a read r.parameter (full_size r) y) learned.Malformed (refusal_of q) (figure_of q (reply_data y))

-- whether what was learned is the log's
unfoldable pub fits_log : Header → Learned → Bool
fits_log h (learned.Clock t) = true
fits_log h (learned.Ke k) = eqb k h.ke
fits_log h (learned.Minutes m) = eqb m h.minutes
fits_log h (learned.Refused result) = false
fits_log h (learned.Malformed fault) = false
