-- The strip of a day of a lent log: a character a slot, so that one look tells lost replies from an even run. Source: document 00: "a log
-- cell is a gap, empty, or measured, and never a guess"; the date as in document 01, "Marked examples"; the refusals as the day's line has
-- them; slots that don't exist by document 02, CR 5.
use Rattle.log_cell.specs.declared.cell.Cell.{Cell}
use Rattle.day_report.specs.declared.answer.ReportError.{ReportError}
use Rattle.std.specs.Prelude.{ℕ, ◌+◌, Bool, true, false, List, [], ◌∷◌, ◌++◌, map, Err, None, Option, Result, Some}
use Rattle.refusal.specs.Outcome.{Outcome, outcome, check}
use Rattle.calendar.specs.declared.date.Date.{Date}
use Rattle.text.specs.DateText.{date_text}
use Rattle.log_header.specs.Header.{if_sound}
use Rattle.energy_log.specs.Image.{all_good}
use Rattle.log_header.specs.Interval.{day_date}
use Rattle.energy_log.specs.Walk.{Place, day_walk}
use Rattle.energy_log.specs.View.{View}
use Rattle.log_header.specs.declared.header.Header.{Header}
use Rattle.log_cell.specs.declared.cell.Cell.TheVariants.{Gap, Empty, Measured}
use Rattle.day_rows.specs.Figures.{day_cells}
use Rattle.day_report.specs.Text.{space, line_feed, date_size, put_text}
use Rattle.day_report.specs.declared.answer.ReportError.TheVariants.{Unsound, NotInLog}

-- a slot's character: `-` where it does not exist, whatever its bytes are (CR 5); else by its cell, `.`, `o` or `#`. The `?` of a bad cell is in
-- no strip: 28 comes first
unfoldable pub mark : Bool → Option Cell → ℕ
mark false a = 45
mark true (Some Gap) = 46
mark true (Some Empty) = 111
mark true (Some (Measured e+ e- r+ r-)) = 35
mark true None = 63

abbrev pub mark_of : Place → ℕ
mark_of p = mark p.there p.cell

-- of a day's slots, in time order
unfoldable pub day_marks : (ℕ → Option Cell) → Header → ℕ → List ℕ
day_marks cell h d = map mark_of (day_walk h cell d)

-- a day's date, a space, the marks of its slots, and a line feed
unfoldable pub strip_of : Date → List ℕ → List ℕ
strip_of date marks = date_text date ++ (space ∷ (marks ++ (line_feed ∷ [])))

-- where the marks begin
abbrev pub marks_at : ℕ
marks_at = date_size + 1

-- 28 for a cell; 1: "lent output too short"
unfoldable pub strip_dated : Date → List (Option Cell) → List ℕ → List ℕ → Outcome (Result ℕ ReportError) (List ℕ)
strip_dated date read marks out = check (all_good read) (outcome (Err Unsound) out) (put_text (strip_of date marks) out)

-- 22: "report day not in the log"
unfoldable pub strip_on : Option Date → List (Option Cell) → List ℕ → List ℕ → Outcome (Result ℕ ReportError) (List ℕ)
strip_on None read marks out = outcome (Err NotInLog) out
strip_on (Some date) read marks out = strip_dated date read marks out

-- the strip of a day of a lent log; 28: "lent log with a wrong header, length"
unfoldable pub strip_text : View → ℕ → List ℕ → Outcome (Result ℕ ReportError) (List ℕ)
strip_text v d out =
    if_sound v.lent (outcome (Err Unsound) out) (λ h. strip_on (day_date h d) (day_cells v.cell h d) (day_marks v.cell h d) out)
