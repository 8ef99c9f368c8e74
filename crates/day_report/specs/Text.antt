-- The day report's text, in ASCII. Source: document 01, "Marked examples": the report of a file; document 02, CR 5: "a last column `doubled`".
use Rattle.refusal.specs.Number.{answer_number}
use Rattle.day_report.specs.declared.answer.ReportError.{ReportError}
use Rattle.std.specs.Prelude.{ℕ, ◌+◌, ◌*◌, cond, List, [], ◌∷◌, ◌++◌, leb, length, Err, Ok, Result}
use Rattle.refusal.specs.Outcome.{Outcome, outcome}
use Rattle.byte_numbers.specs.Place.{written}
use Rattle.calendar.specs.declared.date.Date.{Date}
use Rattle.text.specs.Ascii.{ascii}
use Rattle.text.specs.Decimal.{decimal}
use Rattle.text.specs.DateText.{date_text}
use Rattle.day_rows.specs.Figures.{row_numbers}
use Rattle.day_report.specs.Report.{error_number}
use Rattle.day_report.specs.declared.answer.ReportError.TheVariants.{TooShort}

-- the numbers of document 01's table
abbrev pub text_number : Result ℕ ReportError → ℕ
text_number = answer_number error_number

-- ---- the texts

abbrev pub space : ℕ
space = 32

abbrev pub line_feed : ℕ
line_feed = 10

unfoldable pub heading_text : List ℕ
unfolding ascii
heading_text = ascii "date gap empty measured E+ E- R+ R- doubled\n"

-- each number in decimal digits, behind a space
unfoldable pub numbers_text : List ℕ → List ℕ
numbers_text [] = []
numbers_text (n ∷ ns) = space ∷ (decimal n ++ numbers_text ns)

-- a day's line: its date, its numbers, and a line feed
unfoldable pub line_text : Date → List ℕ → List ℕ
line_text d ns = date_text d ++ (numbers_text ns ++ (line_feed ∷ []))

-- the bytes of a date, and the most of a number of 32 bits behind its space
abbrev pub date_size : ℕ
date_size = 10

abbrev pub number_most : ℕ
number_most = 11

-- the bytes of the longest line
abbrev pub line_most : ℕ
line_most = date_size + number_most * row_numbers + 1

-- ---- a text at the front of a lent buffer

-- 1: "lent output too short (.. under what would be written)"; "Output past what was written is unchanged"
unfoldable pub put_text : List ℕ → List ℕ → Outcome (Result ℕ ReportError) (List ℕ)
put_text text out = cond (leb (length text) (length out)) (outcome (Ok (length text)) (written out 0 text)) (outcome (Err TooShort) out)
