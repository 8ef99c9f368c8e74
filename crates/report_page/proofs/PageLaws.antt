-- What follows from the definition of a page: a refusal's line, its length, and its parts written one behind the other; that a file is never
-- refused for want of room; that past the last line there is none; that the lines of what was read are those of the file; and that each line
-- has room. Assumes nothing.
use Rattle.std.specs.Prelude.{Err, None, Ok, Option, Result, Some}
use Rattle.std.specs.Result.{result_unwrap_or}
use Rattle.log_file.specs.declared.read.ReadError.{ReadError}
use Rattle.day_report.specs.declared.answer.ReportError.{ReportError}
use mathlib.Core.Path.{◌≡◌, refl, sym, ap, ◌∙◌}
use mathlib.Core.Bool.{Bool, true, false, ◌&&◌}
use mathlib.Core.List.{[], ◌∷◌, List, ◌++◌}
use Prim.Native.Nat.{ℕ, zero, suc, ◌+◌, ◌-◌, ◌≤◌, ◌<◌}
use native.Mathlib.Omega.{arith}
use lib.Dec.{leb, ltb, eqb}
use lib.ListN.{length, replicate, length-append, length-replicate}
use borrow.Author.Tests.{le-leb, ltb-true, ltb-false, ne_eqb}
use Rattle.test_laws.proofs.Test.{either}
use Rattle.refusal.specs.Outcome.{Outcome, outcome, check}
use Rattle.text.specs.Ascii.{ascii}
use Rattle.text.specs.Decimal.{decimal}
use Rattle.text.proofs.DecimalLaws.{decimal-most-u32}
use Rattle.byte_numbers.specs.Number.{Bytes}
use Rattle.byte_numbers.specs.Place.{written}
use Rattle.byte_numbers.proofs.PlaceLaws.{length-written, written-append}
use Rattle.frame.specs.Sealing.{crc_fits}
use Rattle.log_header.specs.Header.{header_size, days_most, image_most, length_of, is_header, mark_right, version_at, if_right}
use Rattle.log_header.proofs.HeaderLaws.{image-most}
use Rattle.log_header.specs.declared.header.Header.{Header}
use Rattle.day_rows.specs.Rows.{figures_of, all_figures}
use Rattle.day_rows.specs.LogAndRows.{LogAndRows, log_and_rows, enough}
use Rattle.day_rows.proofs.RowsLaws.{figures_most, figures-at-most, Small, small-nil, small-written, small-figures}
use Rattle.log_file.specs.Row.{row_at, lapses_in}
use Rattle.log_file.specs.File.{is_version, file_header, file_length_as, cells_right}
use Rattle.log_file.specs.Read.{read_error_number, read_number, if_read, mark_size, read_cells, read_fields, read_file}
use Rattle.log_file.proofs.FileLaws.{file-header-right}
use Rattle.log_file.proofs.RowLaws.{read-is-cell}
use Rattle.log_file.specs.declared.read.ReadError.TheVariants.{WrongMark, WrongVersion, WrongHeader, WrongLength, WrongCrc, WrongCell, TooShort}
use Rattle.day_report.specs.declared.answer.ReportError.TheVariants as report
use Rattle.day_report.specs.Report.{error_number}
use Rattle.day_report.specs.Text.{line_feed, heading_text, line_most, text_number}
use Rattle.day_report.proofs.TextLaws.{Never, text-fits}
use Rattle.energy_log.specs.View.{view_of}
use Rattle.day_report.proofs.DayLaws.{line-past, line-room}
use Rattle.day_report.proofs.StripLaws.{strip_most, strip-past, strip-room}
use Rattle.report_page.specs.declared.page.Page.{Page}
use Rattle.report_page.specs.declared.page.Line.{Line}
use Rattle.report_page.specs.Page.{refused_text, refused_line, report_line, image_in, read_line, read_strip, lines_most}
use Rattle.report_page.specs.Page.{room, figures_room, ReadOf, page_after, next_line, next_strip, page_line, strip_line}

-- the word with its space, the digits and the line feed
pub length-refused : (n : ℕ) → length (refused_text n) ≡ 9 + length (decimal n)
unfolding refused_text ascii
length-refused n = omega (arith, length-append (decimal n) (line_feed ∷ []))

-- the word, the number and the line feed by three stores are the line by one
pub written-refused : (s : List ℕ) (n : ℕ)
    → written (written (written s 0 (ascii "refused ")) 8 (decimal n)) (8 + length (decimal n)) (line_feed ∷ []) ≡ written s 0 (refused_text n)
unfolding refused_text ascii
written-refused s n =
    sym (written-append (written s 0 (ascii "refused ")) 8 (decimal n) (line_feed ∷ []))
    ∙ sym (written-append s 0 (ascii "refused ") (decimal n ++ (line_feed ∷ [])))

-- ---- numbers, for the code that asks whether there was an answer

-- a file that was refused does not have number 0
pub refused_number : (e : ReadError) → eqb (read_error_number e) 0 ≡ false
refused_number WrongMark = refl
refused_number WrongVersion = refl
refused_number WrongHeader = refl
refused_number WrongLength = refl
refused_number WrongCrc = refl
refused_number WrongCell = refl
refused_number TooShort = refl

-- nor does a line that was
pub unput_number : (e : ReportError) → eqb (error_number e) 0 ≡ false
unput_number report.TooShort = refl
unput_number report.Unsound = refl
unput_number report.NotInLog = refl

-- a file that was refused gave no byte of an image
pub read_or_none : (read : Result ℕ ReadError) → result_unwrap_or read 0 ≡ if_read read 0 (λ n. n)
read_or_none (Ok n) = refl
read_or_none (Err e) = refl

-- ---- what a file gives

-- what holds of every refusal but 1, and of what a file with a right header gives by its cells, holds of what it gives
module _ (P : Outcome (Result ℕ ReadError) LogAndRows → Type 0) (f out figs : List ℕ) (other : (a : Result ℕ ReadError) → 1 < read_number a → P (outcome a (log_and_rows out figs)))
    (cells : (h : Header) → is_header h ≡ true → P (read_cells f h out figs)) where
  by-fields : P (read_fields f out figs)
  unfolding read_fields
  by-fields = either P (leb header_size (length f)) (go (file_header f) refl) (other (Err WrongHeader) (omega arith))
    where
      go : (a : Option Header) → file_header f ≡ a
          → P (if_right a (outcome (Err WrongHeader) (log_and_rows out figs)) (λ h.
          check (eqb (length f) (file_length_as (version_at f) h)) (outcome (Err WrongLength) (log_and_rows out figs)) (
          check (crc_fits f) (outcome (Err WrongCrc) (log_and_rows out figs)) (
          read_cells f h out figs))))
      go None p = other (Err WrongHeader) (omega arith)
      go (Some h) p =
          either P (eqb (length f) (file_length_as (version_at f) h))
          (either P (crc_fits f) (cells h (file-header-right f h p)) (other (Err WrongCrc) (omega arith)))
          (other (Err WrongLength) (omega arith))

  by-file : P (read_file f out figs)
  unfolding read_file
  by-file =
      either P (leb mark_size (length f) && mark_right f)
      (either P (is_version (version_at f)) by-fields (other (Err WrongVersion) (omega arith)))
      (other (Err WrongMark) (omega arith))

room-size : length room ≡ image_most
unfolding room
room-size = length-replicate {A = ℕ} image_most 0

figures-size : length figures_room ≡ figures_most
unfolding figures_room
figures-size = length-replicate {A = ℕ} figures_most 0

-- ---- no file is refused for want of room

-- the answer is not 1
abbrev Room : Outcome (Result ℕ ReadError) LogAndRows → Type 0
Room o = read_number o.result ≡ 1 → ⊥

cells-room : (f : List ℕ) (h : Header) (out figs : List ℕ) → length_of h ≤ length out → figures_of h ≤ length figs → Room (read_cells f h out figs)
unfolding read_cells
cells-room f h out figs l m =
    either Room (cells_right h (row_at (version_at f) f) (lapses_in (version_at f) f)) (rw (le-leb _ _ l, le-leb _ _ m) (λ e. omega (arith, e))) (λ e. omega (arith, e))

-- `refused 1` is never printed
pub never-short : (f : List ℕ) → read_number (read_file f room figures_room).result ≡ 1 → ⊥
never-short f =
    by-file Room f room figures_room (λ a l e. omega (arith, l, e)) (λ h e.
    cells-room f h room figures_room (omega (arith, image-most h e, room-size)) (omega (arith, figures-at-most h e, figures-size)))

-- ---- as many figures as the longest log has, each of 32 bits

abbrev Kept : Outcome (Result ℕ ReadError) LogAndRows → Type 0
Kept o = (length o.left.figures ≡ figures_most) × Small o.left.figures

small-zeros : (n : ℕ) → Small (replicate n 0)
small-zeros zero i = small-nil i
small-zeros (suc n) zero = omega arith
small-zeros (suc n) (suc i) = small-zeros n i

small-room : Small figures_room
unfolding figures_room
small-room = small-zeros figures_most

module _ (f : List ℕ) (bytes : Bytes f) where
  cells-kept : (h : Header) (out figs : List ℕ) → length figs ≡ figures_most → Small figs → Kept (read_cells f h out figs)
  unfolding read_cells
  cells-kept h out figs n small =
      let cell = row_at (version_at f) f in
      let all = all_figures h cell in
      either Kept (cells_right h cell (lapses_in (version_at f) f))
      (either Kept (leb (length_of h) (length out))
      (either Kept (enough h figs)
      (length-written figs 0 all ∙ n, small-written figs 0 all small (small-figures h cell (read-is-cell (version_at f) f bytes)))
      (n, small))
      (n, small))
      (n, small)

  figures-kept : Kept (read_file f room figures_room)
  figures-kept =
      by-file Kept f room figures_room (λ a l. (figures-size, small-room)) (λ h e. cells-kept h room figures_room figures-size small-room)

-- ---- past the last line there is none

-- 63 lines are all that a page has, whatever was read
pub read_past : (read : Result ℕ ReadError) (given : LogAndRows) (i : ℕ) (out : List ℕ) → lines_most ≤ i → Never 0 (read_line read given i out)
unfolding read_line report_line refused_line
read_past read given i out l =
    let behind : eqb i 0 ≡ false = ne_eqb i 0 (λ e. omega (arith, e)) in
    either (Never 0) (eqb (read_number read) 0)
    (rw behind (line-past (image_in read given.log) given.figures (i - 1) out (omega arith))) (rw behind (λ e. omega (arith, e)))

-- 62 strips are all that there are
pub strips-past : (read : Result ℕ ReadError) (log : List ℕ) (d : ℕ) (out : List ℕ) → days_most ≤ d → Never 0 (read_strip read log d out)
unfolding read_strip
strips-past read log d out l = strip-past (image_in read log) d out l

-- so a line that was put is below that
below : (i most : ℕ) (o : Outcome (Result ℕ ReportError) (List ℕ)) → (most ≤ i → Never 0 o) → text_number o.result ≡ 0 → i < most
below i most o past e = go (ltb i most) refl
  where
    go : (b : Bool) → ltb i most ≡ b → i < most
    go true f = ltb-true i most f
    go false f = absurd (past (ltb-false i most f) e)

-- for the number of the line behind one that was put
pub line-below : (read : Result ℕ ReadError) (given : LogAndRows) (i : ℕ) (out : List ℕ) → text_number (read_line read given i out).result ≡ 0 → i < lines_most
line-below read given i out = below i lines_most (read_line read given i out) (read_past read given i out)

-- and of the strip behind one
pub strip-below : (read : Result ℕ ReadError) (log : List ℕ) (d : ℕ) (out : List ℕ) → text_number (read_strip read log d out).result ≡ 0 → d < lines_most
strip-below read log d out e = omega (arith, below d days_most (read_strip read log d out) (strips-past read log d out) e)

-- ---- a line of what was read of a file is that line of the file's page

-- for the program, which reads its file once
pub line-of-file : (f : List ℕ) (read : Result ℕ ReadError) (given : LogAndRows) (i : ℕ) (out : List ℕ) → ReadOf f read given
    → read_line read given i out ≡ page_line f i out
unfolding page_line
line-of-file f read given i out e = ap (λ (o : Outcome (Result ℕ ReadError) LogAndRows). read_line o.result o.left i out) e

-- and for its strips
pub strip-of-file : (f : List ℕ) (read : Result ℕ ReadError) (given : LogAndRows) (d : ℕ) (out : List ℕ) → ReadOf f read given
    → read_strip read given.log d out ≡ strip_line f d out
unfolding strip_line
strip-of-file f read given d out e = ap (λ (o : Outcome (Result ℕ ReadError) LogAndRows). read_strip o.result o.left.log d out) e

-- a page stays that of what was read
after_read : (p : Page) (a : Result ℕ ReportError) → (page_after a p).read ≡ p.read
unfolding page_after
after_read p a = either (λ (q : Page). q.read ≡ p.read) (eqb (text_number a) 0) refl refl

-- what is put into a buffer for a line of what was read is that line of the file's page
module _ (f : List ℕ) (p : Page) (given : LogAndRows) (out : List ℕ) (l : Line) (text : List ℕ) where
  -- for the program's lines, from one to the next
  pub line_read : outcome l text ≡ next_line p given out → l.after.read ≡ p.read
  unfolding next_line
  line_read e = ap (λ (o : Outcome Line (List ℕ)). o.result.after.read) e ∙ after_read p (read_line p.read given p.next out).result

  -- for what it hands over to be printed
  pub line-put : ReadOf f p.read given → outcome l text ≡ next_line p given out → outcome l.answer text ≡ page_line f p.next out
  unfolding next_line
  line-put r e = ap (λ (o : Outcome Line (List ℕ)). outcome o.result.answer o.left) e ∙ line-of-file f p.read given p.next out r

  -- the same two of its strips
  pub strip-read : outcome l text ≡ next_strip p given.log out → l.after.read ≡ p.read
  unfolding next_strip
  strip-read e = ap (λ (o : Outcome Line (List ℕ)). o.result.after.read) e ∙ after_read p (read_strip p.read given.log p.next out).result

  -- what is put into a buffer for a strip of what was read is that strip of the file
  pub strip-put : ReadOf f p.read given → outcome l text ≡ next_strip p given.log out → outcome l.answer text ≡ strip_line f p.next out
  unfolding next_strip
  strip-put r e = ap (λ (o : Outcome Line (List ℕ)). outcome o.result.answer o.left) e ∙ strip-of-file f p.read given p.next out r

-- ---- the longest line's room is enough for each, and so is the longest strip's

length-heading : length heading_text ≡ 44
unfolding heading_text ascii
length-heading = refl

number-most : (a : Result ℕ ReadError) → read_number a ≤ 35
number-most (Ok n) = omega arith
number-most (Err WrongMark) = omega arith
number-most (Err WrongVersion) = omega arith
number-most (Err WrongHeader) = omega arith
number-most (Err WrongLength) = omega arith
number-most (Err WrongCrc) = omega arith
number-most (Err WrongCell) = omega arith
number-most (Err TooShort) = omega arith

-- no line of a page is refused for want of room
pub page-room : (f : List ℕ) (i : ℕ) (out : List ℕ) → Bytes f → line_most ≤ length out → Never 1 (page_line f i out)
unfolding page_line read_line report_line refused_line
page-room f i out bytes l =
    let o = read_file f room figures_room in
    let n = read_number o.result in
    let digits = decimal-most-u32 n (omega (arith, number-most o.result)) in
    let kept = figures-kept f bytes in
    either (Never 1) (eqb n 0)
    (either (Never 1) (eqb i 0)
    (text-fits heading_text out (omega (arith, length-heading)))
    (line-room (image_in o.result o.left.log) o.left.figures (i - 1) out (omega (arith, kept.0)) kept.1 l))
    (either (Never 1) (eqb i 0)
    (text-fits (refused_text n) out (omega (arith, length-refused n, digits)))
    (λ e. omega (arith, e)))

-- nor is a strip
pub strips-room : (f : List ℕ) (d : ℕ) (out : List ℕ) → strip_most ≤ length out → Never 1 (strip_line f d out)
unfolding strip_line read_strip
strips-room f d out l = let o = read_file f room figures_room in strip-room (view_of (image_in o.result o.left.log)) d out l
