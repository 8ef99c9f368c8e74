-- Read requests and their frames. Source: document 01, "Frames": "Read: function 3, then parameter, offset, tariff, detail: 8 bytes in
-- all"; with function 4 the same (002, figure 3, page 5; document 02, request 3); "The reader and the log": 27 is "a request that no record would answer with 0".
use Rattle.refusal.specs.Number.{answer_number}
use Rattle.request.specs.declared.request.RequestError.{RequestError}
use Rattle.std.specs.Prelude.{cond, List, [], ◌∷◌, ℕ, ltb, length, Err, Ok, Result}
use Rattle.byte_numbers.specs.Place.{written}
use Rattle.refusal.specs.Outcome.{Outcome, outcome}
use Rattle.frame.specs.Sealing.{framed}
use Rattle.parameters.specs.Code.{reading_code}
use Rattle.frame.specs.Layout.{read_size}
use Rattle.request.specs.Subject.{subject_of, askable, most_slots}
use Rattle.request.specs.declared.request.Request.{Request}
use Rattle.request.specs.declared.request.RequestError.TheVariants.{TooShort, OutOfRange}

-- the request's frame
unfoldable pub request_frame : Request → List ℕ
request_frame q = framed (q.address ∷ reading_code q.reading ∷ q.parameter ∷ q.offset ∷ q.tariff ∷ q.detail ∷ [])

-- making a request: 1, then 27, by the table's order
unfoldable pub requested : Request → List ℕ → Outcome (Result Unit RequestError) (List ℕ)
unfolding subject_of request_frame
requested q s =
    cond (ltb (length s) read_size) (outcome (Err TooShort) s)
    (cond (askable (subject_of q most_slots)) (outcome (Ok tt) (written s 0 (request_frame q))) (outcome (Err OutOfRange) s))

-- document 01's numbers
abbrev pub error_number : RequestError → ℕ
error_number TooShort = 1
error_number OutOfRange = 27

abbrev pub number_of : Result Unit RequestError → ℕ
number_of = answer_number error_number
