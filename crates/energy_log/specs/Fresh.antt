-- A fresh log. Source: document 01, "A fresh log is all gaps", and its table: "a new log 27, 1".
use Rattle.refusal.specs.Number.{answer_number}
use Rattle.energy_log.specs.declared.fresh.FreshError.{FreshError}
use Rattle.std.specs.Prelude.{ℕ, cond, List, leb, length, replicate, Err, Ok, Result}
use Rattle.refusal.specs.Outcome.{Outcome, outcome}
use Rattle.byte_numbers.specs.Place.{written}
use Rattle.log_header.specs.Header.{is_header, cells_of, length_of}
use Rattle.energy_log.specs.Image.{image_of}
use Rattle.log_header.specs.declared.header.Header.{Header}
use Rattle.log_cell.specs.declared.cell.Cell.{Cell}
use Rattle.log_cell.specs.declared.cell.Cell.TheVariants.{Gap}
use Rattle.energy_log.specs.declared.fresh.FreshError.TheVariants.{OutOfRange, TooShort}

-- the numbers of document 01's table
abbrev pub fresh_error_number : FreshError → ℕ
fresh_error_number OutOfRange = 27
fresh_error_number TooShort = 1

abbrev pub fresh_number : Result ℕ FreshError → ℕ
fresh_number = answer_number fresh_error_number

-- n gaps
unfoldable pub gaps : ℕ → List Cell
gaps n = replicate n Gap

-- no ask has lapsed
abbrev pub no_lapses : ℕ → ℕ
no_lapses i = 0

-- "A fresh log is all gaps"
unfoldable pub fresh_image : Header → List ℕ
fresh_image h = image_of h (gaps (cells_of h)) no_lapses

-- "a new log 27, 1"; "Output past what was written is unchanged"
unfoldable pub fresh_of : Header → List ℕ → Outcome (Result ℕ FreshError) (List ℕ)
fresh_of h s =
    cond (is_header h)
    (cond (leb (length_of h) (length s)) (outcome (Ok (length_of h)) (written s 0 (fresh_image h))) (outcome (Err TooShort) s))
    (outcome (Err OutOfRange) s)
