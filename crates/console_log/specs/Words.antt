-- What stands in a line of the log or the reader. Source: the console's page, "Log and reader".
use Rattle.std.specs.Prelude.{ℕ, ◌+◌, cond, List, eqb, None, Option, Some}
use Rattle.refusal.specs.Outcome.{Outcome, outcome}
use Rattle.parameters.specs.declared.code.Reading.{Reading}
use Rattle.request.specs.declared.request.Request.{Request}
use Rattle.console.specs.Line.{spaces_in, word_at}
use Rattle.console.specs.Value.{bytes_read}
use Rattle.console.specs.Form.{byte_in}

-- the bytes of the word behind so many, into a lent buffer; "without BYTES: none"
unfoldable pub reply_read : List ℕ → ℕ → List ℕ → Outcome (Option ℕ) (List ℕ)
reply_read line before out =
    cond (eqb (spaces_in line) before) (bytes_read (word_at before line) out)
    (cond (eqb before (spaces_in line + 1)) (outcome (Some 0) out) (outcome None out))

-- ADDRESS PARAMETER OFFSET TARIFF DETAIL
abbrev pub request_in : Reading → List ℕ → Request
request_in reading line = record {
  reading = reading;
  address = byte_in line 1;
  parameter = byte_in line 2;
  offset = byte_in line 3;
  tariff = byte_in line 4;
  detail = byte_in line 5;
}
