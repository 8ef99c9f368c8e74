-- The bench's answers. Source: document 02, CR 1: "A reader and a bench answerer"; "Refusals: 27 a bench figure above its digits, 40 wrong length,
-- CRC, address or command at either side"; document 01's table for 1: "replies: under 64 bytes".
use Rattle.refusal.specs.Number.{answer_number}
use Rattle.mercury_bench.specs.declared.reply.AnswerError.{AnswerError}
use Rattle.mercury.specs.declared.form.Fault.{Fault}
use Rattle.std.specs.Prelude.{List, [], ℕ, leb, length, Err, Ok, Result}
use Rattle.byte_numbers.specs.Place.{byte_at, written}
use Rattle.refusal.specs.Outcome.{Outcome, outcome, check}
use Rattle.frame.specs.Layout.{longest}
use Rattle.mercury.specs.Command.{command_of, code_of}
use Rattle.mercury.specs.Data.{tariffs_bytes, load_bytes, frequency_bytes}
use Rattle.mercury.specs.Form.{request_form}
use Rattle.mercury.specs.Layout.{command_place}
use Rattle.mercury.specs.Reply.{reply_frame}
use Rattle.mercury.specs.declared.command.Command.{Command}
use Rattle.mercury.specs.declared.command.Command.TheVariants.{Tariffs, Load, Frequency, Unknown}
use Rattle.mercury_bench.specs.Meter.{is_within}
use Rattle.mercury_bench.specs.declared.meter.Meter.{Meter}
use Rattle.mercury_bench.specs.declared.reply.AnswerError.TheVariants.{TooShort, OutOfRange, Silent}

-- the data of a reply
unfoldable pub data_of : Command → Meter → List ℕ
data_of Tariffs m = tariffs_bytes m.tariffs
data_of Load m = load_bytes m.load
data_of Frequency m = frequency_bytes m.frequency
data_of Unknown m = []

unfoldable pub reply_of : Command → Meter → List ℕ
reply_of c m = reply_frame m.address (code_of c) (data_of c m)

-- the command of a request
abbrev pub command_in : List ℕ → Command
command_in q = command_of (byte_at q command_place)

-- the reply to a request to this meter; to anything else it is silent
unfoldable pub heard : Result Unit Fault → Command → Meter → List ℕ → Outcome (Result ℕ AnswerError) (List ℕ)
heard (Ok tt) c m out = outcome (Ok (length (reply_of c m))) (written out 0 (reply_of c m))
heard (Err fault) c m out = outcome (Err (Silent fault)) out

-- 1, 27, 40
unfoldable pub answered : Meter → List ℕ → List ℕ → Outcome (Result ℕ AnswerError) (List ℕ)
unfolding heard
answered m q out =
    check (leb longest (length out)) (outcome (Err TooShort) out) (
    check (is_within m) (outcome (Err OutOfRange) out) (
    heard (request_form m.address q) (command_in q) m out))

abbrev pub error_number : AnswerError → ℕ
error_number TooShort = 1
error_number OutOfRange = 27
error_number (Silent fault) = 40

abbrev pub number_of : Result ℕ AnswerError → ℕ
number_of = answer_number error_number
