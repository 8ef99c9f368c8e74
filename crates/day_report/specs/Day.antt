-- The line of a day of a lent log. Source: document 01, "Marked examples", and the refusals in the report's own order; document 02, CR 8: "The report's
-- text is unchanged."
use Rattle.calendar.specs.declared.date.Date.{Date}
use Rattle.log_header.specs.declared.header.Header.{Header}
use Rattle.day_report.specs.declared.answer.ReportError.{ReportError}
use Rattle.std.specs.Prelude.{ℕ, List, replicate, Err, None, Option, Result, Some}
use Rattle.refusal.specs.Outcome.{Outcome, outcome, check}
use Rattle.log_header.specs.Header.{if_sound}
use Rattle.log_header.specs.Interval.{day_date}
use Rattle.day_rows.specs.Figures.{row_numbers}
use Rattle.day_rows.specs.Rows.{row_at}
use Rattle.day_rows.specs.LogAndRows.{enough}
use Rattle.day_report.specs.Text.{line_text, put_text}
use Rattle.day_report.specs.declared.answer.ReportError.TheVariants.{TooShort, Unsound, NotInLog}

-- the row that the figures are copied to, at first zeros
abbrev pub zeros : List ℕ
zeros = replicate row_numbers 0

-- 22: "report day not in the log"; else the line of its figures
unfoldable pub day_on_text : Option Date → List ℕ → List ℕ → Outcome (Result ℕ ReportError) (List ℕ)
day_on_text None row out = outcome (Err NotInLog) out
day_on_text (Some date) row out = put_text (line_text date row) out

-- the line of a day of a lent log; 28: "lent log with a wrong header, length"; 1: "if fewer are lent" (CR 8)
unfoldable pub day_text : Option Header → List ℕ → ℕ → List ℕ → Outcome (Result ℕ ReportError) (List ℕ)
day_text lent figs d out =
    if_sound lent (outcome (Err Unsound) out) (λ h.
    check (enough h figs) (outcome (Err TooShort) out) (
    day_on_text (day_date h d) (row_at figs d) out))
