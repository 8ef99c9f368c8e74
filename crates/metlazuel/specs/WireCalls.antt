-- What C is given of a decoded reply: the figures as a row of 32-bit numbers, how many they are, the meter's result where it is not
-- 0, and the length where it is wrong.
use Rattle.reader.specs.declared.reply.DecodeError.{DecodeError}
use Rattle.std.specs.Prelude.{cond, List, ℕ, eqb, ltb, length, Result}
use Rattle.refusal.specs.Outcome.{Outcome, outcome}
use Rattle.byte_numbers.specs.Place.{written}
use Rattle.parameters.specs.declared.code.Reading.{Reading}
use Rattle.request.specs.Subject.{subject_of, most_slots}
use Rattle.request.specs.declared.request.Request.{Request}
use Rattle.reader.specs.Reply.{decoded_of, number_of}
use Rattle.reader.specs.declared.reply.Decoded.{Decoded}
use Rattle.c_values.specs.Row.{figures_for, figure_row}
use Rattle.metlazuel.specs.Calls.{result_after, received_after}

-- the numbers that C hands over, as a request; the function goes by the call
abbrev pub request_from : Reading → ℕ → ℕ → ℕ → ℕ → ℕ → Request
request_from reading address parameter offset tariff detail =
    record { reading = reading; address = address; parameter = parameter; offset = offset; tariff = tariff; detail = detail }

-- the lent count: how many figures there are, and untouched by a refusal
unfoldable pub count_after : Result Decoded DecodeError → List ℕ → ℕ → ℕ
count_after d y before = cond (eqb (number_of d) 0) (length (figure_row d y)) before

-- left: the count, the meter's result, the length received, and the row, with the figures at its front; a refusal has none
abbrev pub decoded_for_c : Result Decoded DecodeError → List ℕ → List ℕ → ℕ → ℕ → ℕ → Outcome ℕ (ℕ × ℕ × ℕ × List ℕ)
decoded_for_c d y row count result size =
    let n = number_of d in
    outcome n (count_after d y count, result_after n y result, received_after n y size, written row 0 (figure_row d y))

-- a reply y decoded against the request q: 1 for a row that is shorter than the figures of a done reply, then 27, 50 to 54, 24, 26
unfoldable pub decode_for_c : Request → List ℕ → List ℕ → ℕ → ℕ → ℕ → Outcome ℕ (ℕ × ℕ × ℕ × List ℕ)
decode_for_c q y row count result size =
    cond (ltb (length row) (figures_for (subject_of q most_slots)))
    (outcome 1 (count, result, size, row))
    (decoded_for_c (decoded_of q y) y row count result size)
