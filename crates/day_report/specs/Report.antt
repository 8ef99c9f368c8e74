-- The day report. Source: document 01: "Day report: the number of gaps, empties and measured cells, and four sums of counts, written
-- into a lent row of 32-bit numbers."; document 02, CR 5: "the report has a last column `doubled`"; CR 8: "the report copies them and reads no cell".
use Rattle.refusal.specs.Number.{answer_number}
use Rattle.log_header.specs.declared.header.Header.{Header}
use Rattle.day_report.specs.declared.answer.ReportError.{ReportError}
use Rattle.std.specs.Prelude.{ℕ, List, ltb, leb, length, Err, Ok, Option, Result}
use Rattle.refusal.specs.Outcome.{Outcome, outcome, check}
use Rattle.byte_numbers.specs.Place.{written}
use Rattle.log_header.specs.Header.{if_sound}
use Rattle.day_rows.specs.Figures.{row_numbers}
use Rattle.day_rows.specs.Rows.{row_at}
use Rattle.day_rows.specs.LogAndRows.{enough}
use Rattle.day_report.specs.declared.answer.ReportError.TheVariants.{TooShort, Unsound, NotInLog}

-- the numbers of document 01's table: of the report and of its text
abbrev pub error_number : ReportError → ℕ
error_number TooShort = 1
error_number Unsound = 28
error_number NotInLog = 22

abbrev pub report_number : Result Unit ReportError → ℕ
report_number = answer_number error_number

-- "1", "28 stands right after 1", 1 "right after a lent log's header and length, if fewer are lent" (CR 8), 22: "report day not in the log"; of the log its
-- header and its length are all that is asked
unfoldable pub report_of : Option Header → List ℕ → ℕ → List ℕ → Outcome (Result Unit ReportError) (List ℕ)
report_of lent figs d row =
    check (leb row_numbers (length row)) (outcome (Err TooShort) row) (
    if_sound lent (outcome (Err Unsound) row) (λ h.
    check (enough h figs) (outcome (Err TooShort) row) (
    check (ltb d h.days) (outcome (Err NotInLog) row) (
    outcome (Ok tt) (written row 0 (row_at figs d))))))
