-- What C is given of the Mercury 206's calls: the papers' number, and with it the lent memory as the call leaves it.
use Rattle.mercury_bench.specs.declared.reply.AnswerError.{AnswerError}
use Rattle.mercury.specs.declared.reply.DecodeError.{DecodeError}
use Rattle.std.specs.Prelude.{cond, List, [], ◌∷◌, ℕ, ltb, length, Err, Ok, Result}
use Rattle.std.specs.Result.{result_unwrap_or}
use Rattle.byte_numbers.specs.Place.{byte_at, written}
use Rattle.refusal.specs.Outcome.{Outcome, outcome}
use Rattle.mercury.specs.Command.{command_of}
use Rattle.mercury.specs.Reply as reply
use Rattle.mercury.specs.Request as request
use Rattle.mercury.specs.declared.command.Command.{Command}
use Rattle.mercury.specs.declared.command.Command.TheVariants as command
use Rattle.mercury.specs.declared.reply.Decoded.{Decoded}
use Rattle.mercury.specs.declared.reply.Decoded.TheVariants as decoded
use Rattle.mercury.specs.declared.units.Frequency.{Frequency}
use Rattle.mercury.specs.declared.units.Load.{Load}
use Rattle.mercury.specs.declared.units.Rest.{Rest}
use Rattle.mercury.specs.declared.units.Tariffs.{Tariffs}
use Rattle.mercury_bench.specs.Reply as bench
use Rattle.mercury_bench.specs.declared.meter.Meter.{Meter}

-- ---- a request

unfoldable pub request_for_c : ℕ → ℕ → List ℕ → Outcome ℕ (List ℕ)
request_for_c address code out = let o = request.requested address code out in outcome (request.number_of o.result) o.left

-- ---- a reply decoded: count and row

-- how many figures a reply has
abbrev pub figures_for : Command → ℕ
figures_for command.Tariffs = 4
figures_for command.Load = 3
figures_for command.Frequency = 8
figures_for command.Unknown = 0

abbrev pub tariffs_row : Tariffs → List ℕ
tariffs_row t = t.first.0 ∷ t.second.0 ∷ t.third.0 ∷ t.fourth.0 ∷ []

abbrev pub load_row : Load → List ℕ
load_row l = l.voltage.0 ∷ l.current.0 ∷ l.power.0 ∷ []

-- the seven bytes behind the frequency are a number each
abbrev pub frequency_row : Frequency → List ℕ
frequency_row f =
    f.frequency.0 ∷ f.rest.0 ∷ f.rest.1 ∷ f.rest.2 ∷ f.rest.3 ∷ f.rest.4 ∷ f.rest.5 ∷ f.rest.6 ∷ []

-- a refusal has no figures
unfoldable pub figure_row : Result Decoded DecodeError → List ℕ
figure_row (Ok (decoded.Tariffs t)) = tariffs_row t
figure_row (Ok (decoded.Load l)) = load_row l
figure_row (Ok (decoded.Frequency f)) = frequency_row f
figure_row (Err refusal) = []

-- the lent count: how many figures there are, and untouched by a refusal
abbrev pub count_after : Result Decoded DecodeError → ℕ → ℕ
count_after (Ok (decoded.Tariffs t)) before = 4
count_after (Ok (decoded.Load l)) before = 3
count_after (Ok (decoded.Frequency f)) before = 8
count_after (Err refusal) before = before

-- 1 for a row that is shorter than the figures of a reply to this request, then 40, 41
unfoldable pub decode_for_c : ℕ → ℕ → List ℕ → List ℕ → ℕ → Outcome ℕ (ℕ × List ℕ)
decode_for_c address code y row count =
    let d = reply.decoded_of address code y in
    cond (ltb (length row) (figures_for (command_of code)))
    (outcome 1 (count, row))
    (outcome (reply.number_of d) (count_after d count, written row 0 (figure_row d)))

-- ---- the bench's answer: length and output

abbrev pub tariffs_from : ℕ → ℕ → ℕ → ℕ → Tariffs
tariffs_from a b c d = record { first = record { 0 = a }; second = record { 0 = b }; third = record { 0 = c }; fourth = record { 0 = d } }

abbrev pub load_from : ℕ → ℕ → ℕ → Load
load_from v i p = record { voltage = record { 0 = v }; current = record { 0 = i }; power = record { 0 = p } }

-- the first seven of the lent bytes; one that is missing is 0
abbrev pub rest_from : List ℕ → Rest
rest_from s = record {
  0 = byte_at s 0;
  1 = byte_at s 1;
  2 = byte_at s 2;
  3 = byte_at s 3;
  4 = byte_at s 4;
  5 = byte_at s 5;
  6 = byte_at s 6;
}

abbrev pub frequency_from : ℕ → List ℕ → Frequency
frequency_from f s = record { frequency = record { 0 = f }; rest = rest_from s }

abbrev pub meter_from : ℕ → Tariffs → Load → Frequency → Meter
meter_from address t l f = record { address = address; tariffs = t; load = l; frequency = f }

-- the lent length: that of a reply, and untouched by a refusal
abbrev pub length_after : Result ℕ AnswerError → ℕ → ℕ
length_after = result_unwrap_or

-- 1, 27, 40
unfoldable pub answer_for_c : Meter → List ℕ → List ℕ → ℕ → Outcome ℕ (ℕ × List ℕ)
answer_for_c m q out before =
    let o = bench.answered m q out in outcome (bench.number_of o.result) (length_after o.result before, o.left)
