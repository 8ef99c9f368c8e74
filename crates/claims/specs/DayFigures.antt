-- Document 02, CR 8, "The daily line without the daily walk". That a refused call leaves the figures that it was lent is demand 1's; that answers, log and open
-- ask are fixed by the history, where log and figures are lent as the calls before left them, demand 3's; here stands what becomes of the figures. The walk is
-- `walked` (`day_rows/specs/Rows.antt`). Proofs: `day-figures`, proofs/Claims.antt.
use Rattle.std.specs.Prelude.{◌≡◌, Bool, List, ℕ, ◌+◌, ◌*◌, ◌≤◌, ◌<◌, length, get_or, Ok, Result, Some}
use Rattle.refusal.specs.Outcome.{outcome}
use Rattle.byte_numbers.specs.Place.{written}
use Rattle.calendar.specs.declared.date.Date.{Date}
use Rattle.log_header.specs.Header.{sound_of}
use Rattle.log_header.specs.Interval.{day_date}
use Rattle.energy_log.specs.View.{view_of}
use Rattle.log_cell.specs.declared.cell.Cell.{Cell}
use Rattle.log_header.specs.declared.header.Header.{Header}
use Rattle.day_rows.specs.LogAndRows.{LogAndRows}
use Rattle.day_rows.specs.Figures.{row_numbers}
use Rattle.day_rows.specs.Put.{change_of}
use Rattle.day_rows.specs.Rows.{row_at, walked, Right}
use Rattle.day_report.specs.Day.{day_text}
use Rattle.day_report.specs.Report.{report_of}
use Rattle.day_report.specs.Text.{line_text, put_text}
use Rattle.log_file.specs.declared.read.ReadError.{ReadError}
use Rattle.report_page.specs.Page.{report_line, ReadOf, page_at, goes_on, next_line, next_strip, page_line, strip_line}
use Rattle.logger.specs.Book.{Call, plain, AllBytes}
use Rattle.logger.specs.Held.{OpenFor}
use Rattle.logger.specs.Run.{State, step}
use Rattle.polling.specs.Reached.{Polled}
use Rattle.claims.specs.Demand3.{Start, ran}

-- day d is another than that of the cell whose ask is open, if one is
abbrev pub OtherDay : State → ℕ → Type 0
OtherDay s d = (h : Header) (i : ℕ) → sound_of s.log ≡ Some h → (o : OpenFor h s.held i) → d ≡ o.day → ⊥

pub record DayFigures : Type 0 where
  -- "After any calls on a fresh or read log, each of which gets log and figures as the calls before left them, the figures must be those that a walk over the
  -- cells gives"
  pub kept : (b : LogAndRows) (start : Start b) (calls : List Call) → AllBytes calls → let s = (ran b calls).left in
      Right start.header (view_of s.log).cell s.figures
  -- so none of them would "fall below 0 or pass 32 bits": 28 comes to none of these calls
  pub never_28 : (b : LogAndRows) (start : Start b) (calls : List Call) → AllBytes calls → (k : ℕ) → (get_or (ran b calls).result k (plain 0)).number ≡ 28 → ⊥
  -- "the report copies them": after such calls the row of each day is the walk's, and what is lent behind it stays
  pub reported : (b : LogAndRows) (start : Start b) (calls : List Call) → AllBytes calls → let s = (ran b calls).left in
      (d : ℕ) (row : List ℕ) → d < start.header.days → row_numbers ≤ length row
      → report_of (sound_of s.log) s.figures d row ≡ outcome (Ok tt) (written row 0 (walked start.header (view_of s.log).cell d))
  -- "The report's text is unchanged": after such calls a day's line, by itself and on the page, is its date with the walk's numbers
  pub line : (b : LogAndRows) (start : Start b) (calls : List Call) → AllBytes calls → let s = (ran b calls).left in
      (d : ℕ) (date : Date) (out : List ℕ) → day_date start.header d ≡ Some date
      → day_text (sound_of s.log) s.figures d out ≡ put_text (line_text date (walked start.header (view_of s.log).cell d)) out
  pub page-line : (b : LogAndRows) (start : Start b) (calls : List Call) → AllBytes calls → let s = (ran b calls).left in
      (d : ℕ) (date : Date) (out : List ℕ) → day_date start.header d ≡ Some date
      → report_line s.log s.figures (d + 1) out ≡ put_text (line_text date (walked start.header (view_of s.log).cell d)) out
  -- the page of a file is read once and goes on line by line: the next line, or strip, of what was read is that line of the file's bytes
  pub next-line : (f : List ℕ) (read : Result ℕ ReadError) (given : LogAndRows) → ReadOf f read given → (i : ℕ) (out : List ℕ)
      → next_line (page_at read i) given out ≡ goes_on (page_at read i) (page_line f i out)
  pub next-strip : (f : List ℕ) (read : Result ℕ ReadError) (given : LogAndRows) → ReadOf f read given → (d : ℕ) (out : List ℕ)
      → next_strip (page_at read d) given.log out ≡ goes_on (page_at read d) (strip_line f d out)
  -- no call alters the figures of another day than that of the cell whose ask was open before it, or how many there are, whatever is lent
  pub other_days : (s : State) (c : Call) (d : ℕ) → OtherDay s d → row_at (step s c).left.figures d ≡ row_at s.figures d
  pub as_many : (s : State) (c : Call) → length (step s c).left.figures ≡ length s.figures
  -- a cell put over the same changes none, and is not refused, whatever the figures of its day are
  pub same_cell : (d : ℕ) (twice : Bool) (c : Cell) (figs : List ℕ) → ((k : ℕ) → get_or figs k 0 < 4294967296) → row_numbers * d + row_numbers ≤ length figs
      → change_of d twice c c figs ≡ outcome (Ok tt) figs
  -- what the program `poll` promises
  pub polled : (b : LogAndRows) (start : Start b) (c : LogAndRows) → Polled b c → Right start.header (view_of c.log).cell c.figures
