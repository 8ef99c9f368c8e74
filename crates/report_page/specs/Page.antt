-- What is printed for a log's file, line by line. Source: document 01, "Marked examples": the report of a file, and "A refused file prints
-- one line, as `refused 31`"; document 02, CR 8: "The report's text is unchanged."
use Rattle.log_file.specs.declared.read.ReadError.{ReadError}
use Rattle.day_report.specs.declared.answer.ReportError.{ReportError}
use Rattle.std.specs.Prelude.{ℕ, ◌+◌, ◌*◌, ◌-◌, ◌≡◌, cond, List, [], ◌∷◌, ◌++◌, eqb, take, replicate, Err, Result}
use Rattle.refusal.specs.Outcome.{Outcome, outcome}
use Rattle.text.specs.Ascii.{ascii}
use Rattle.text.specs.Decimal.{decimal}
use Rattle.day_report.specs.declared.answer.ReportError.TheVariants.{NotInLog}
use Rattle.day_report.specs.Text.{line_feed, heading_text, put_text, text_number}
use Rattle.day_report.specs.Day.{day_text}
use Rattle.day_report.specs.Strip.{strip_text}
use Rattle.log_header.specs.Header.{image_most, days_most, sound_of}
use Rattle.energy_log.specs.View.{view_of}
use Rattle.day_rows.specs.Figures.{row_numbers}
use Rattle.day_rows.specs.LogAndRows.{LogAndRows}
use Rattle.log_file.specs.Read.{read_number, if_read, read_file}
use Rattle.report_page.specs.declared.page.Page.{Page}
use Rattle.report_page.specs.declared.page.Line.{Line}

-- "as `refused 31`"
unfoldable pub refused_text : ℕ → List ℕ
refused_text number = ascii "refused " ++ (decimal number ++ (line_feed ∷ []))

-- "A refused file prints one line": line 0, and no other
unfoldable pub refused_line : ℕ → ℕ → List ℕ → Outcome (Result ℕ ReportError) (List ℕ)
refused_line number i out = cond (eqb i 0) (put_text (refused_text number) out) (outcome (Err NotInLog) out)

-- line 0 is the heading, and line i that of day i - 1, by its figures; past the last day 22
unfoldable pub report_line : List ℕ → List ℕ → ℕ → List ℕ → Outcome (Result ℕ ReportError) (List ℕ)
report_line image figs i out = cond (eqb i 0) (put_text heading_text out) (day_text (sound_of image) figs (i - 1) out)

-- room for the longest image
unfoldable pub room : List ℕ
room = replicate image_most 0

-- and for its figures: "each day's eight" (CR 8)
unfoldable pub figures_room : List ℕ
figures_room = replicate (row_numbers * days_most) 0

-- the image that a file gave, at the front of the room that it was given; a file that was refused gave none
unfoldable pub image_in : Result ℕ ReadError → List ℕ → List ℕ
image_in read given = take (if_read read 0 (λ n. n)) given

-- the report of the image where the file was read, else the refusal
unfoldable pub read_line : Result ℕ ReadError → LogAndRows → ℕ → List ℕ → Outcome (Result ℕ ReportError) (List ℕ)
read_line read given i out =
    cond (eqb (read_number read) 0) (report_line (image_in read given.log) given.figures i out) (refused_line (read_number read) i out)

-- the strip of a day of the image; a file that was refused has no image, and its strips are refused with 28
unfoldable pub read_strip : Result ℕ ReadError → List ℕ → ℕ → List ℕ → Outcome (Result ℕ ReportError) (List ℕ)
read_strip read log d out = strip_text (view_of (image_in read log)) d out

-- the heading, and the lines of the most days
abbrev pub lines_most : ℕ
lines_most = days_most + 1

-- how far a page is: what was read, and its next line, or the next day's strip
abbrev pub page_at : Result ℕ ReadError → ℕ → Page
page_at read i = record { read = read; next = i }

-- behind a line that was put comes the next one; where none was put the page stays
unfoldable pub page_after : Result ℕ ReportError → Page → Page
page_after answer p = cond (eqb (text_number answer) 0) (page_at p.read (p.next + 1)) p

abbrev pub line_with : Page → Result ℕ ReportError → Line
line_with p answer = record { answer = answer; after = page_after answer p }

abbrev pub goes_on : Page → Outcome (Result ℕ ReportError) (List ℕ) → Outcome Line (List ℕ)
goes_on p o = outcome (line_with p o.result) o.left

-- the next line of the page of what was read, and the page behind it
unfoldable pub next_line : Page → LogAndRows → List ℕ → Outcome Line (List ℕ)
next_line p given out = goes_on p (read_line p.read given p.next out)

-- the next day's strip likewise
unfoldable pub next_strip : Page → List ℕ → List ℕ → Outcome Line (List ℕ)
next_strip p log out = goes_on p (read_strip p.read log p.next out)

-- what a file gives, read once into room for the longest
abbrev pub ReadOf : List ℕ → Result ℕ ReadError → LogAndRows → Type 0
ReadOf file read given = outcome read given ≡ read_file file room figures_room

-- line i of what is printed for a file, of its bytes alone
unfoldable pub page_line : List ℕ → ℕ → List ℕ → Outcome (Result ℕ ReportError) (List ℕ)
page_line file i out = let o = read_file file room figures_room in read_line o.result o.left i out

-- the strip of a day of a file's log
unfoldable pub strip_line : List ℕ → ℕ → List ℕ → Outcome (Result ℕ ReportError) (List ℕ)
strip_line file d out = let o = read_file file room figures_room in read_strip o.result o.left.log d out
