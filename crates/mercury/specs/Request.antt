-- Requests. Source: document 02, CR 1: "requests and replies for 27 hex .., 63 hex .. and 81 hex", "40 wrong .. command at either side".
use Rattle.refusal.specs.Number.{answer_number}
use Rattle.mercury.specs.declared.request.RequestError.{RequestError}
use Rattle.std.specs.Prelude.{List, ℕ, leb, length, Err, Ok, Result}
use Rattle.byte_numbers.specs.Place.{written}
use Rattle.refusal.specs.Outcome.{Outcome, outcome, check}
use Rattle.frame.specs.Sealing.{framed}
use Rattle.mercury.specs.Command.{command_of, is_known}
use Rattle.mercury.specs.Layout.{head_of, bare_size}
use Rattle.mercury.specs.declared.request.RequestError.TheVariants.{TooShort, UnknownCommand}

-- address, command and CRC: "00 00 04 D2 27 79 7B"
unfoldable pub request_frame : ℕ → ℕ → List ℕ
request_frame address code = framed (head_of address code)

-- making a request: 1, then 40
unfoldable pub requested : ℕ → ℕ → List ℕ → Outcome (Result Unit RequestError) (List ℕ)
unfolding request_frame
requested address code out =
    check (leb bare_size (length out)) (outcome (Err TooShort) out) (
    check (is_known (command_of code)) (outcome (Err UnknownCommand) out) (
    outcome (Ok tt) (written out 0 (request_frame address code))))

abbrev pub error_number : RequestError → ℕ
error_number TooShort = 1
error_number UnknownCommand = 40

abbrev pub number_of : Result Unit RequestError → ℕ
number_of = answer_number error_number
