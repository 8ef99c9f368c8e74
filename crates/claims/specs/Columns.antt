-- Where a cell's counts stand: in the log in memory, in its file, and in a day's report. What is seen of a log, a cell that is measured with four counts, does
-- not show two of them exchanged wherever the log is written and read; here bytes and numbers are counted out as the papers have them. Proofs: `columns`,
-- proofs/Claims.antt.
use Rattle.std.specs.Prelude.{◌≡◌, Bool, cond, not, List, [], ◌∷◌, ◌++◌, ℕ, zero, suc, ◌+◌, ◌*◌, ◌/◌, ◌%◌, ◌^◌, ◌≤◌, ◌<◌, length, take, drop, get_or, None, Ok, Option, Some}
use Rattle.refusal.specs.Outcome.{outcome}
use Rattle.byte_numbers.specs.Number.{Bytes}
use Rattle.byte_numbers.specs.Place.{byte_at, written}
use Rattle.frame.specs.Sealing.{framed}
use Rattle.calendar.specs.declared.date.Date.{Date}
use Rattle.slots.specs.Day.{slots_of}
use Rattle.log_header.specs.Header.{sound_of}
use Rattle.energy_log.specs.View.{view_of}
use Rattle.log_cell.specs.declared.cell.Cell.{Cell}
use Rattle.log_cell.specs.declared.cell.Cell.TheVariants.{Gap, Empty, Measured}
use Rattle.log_header.specs.declared.header.Header.{Header}
use Rattle.day_rows.specs.LogAndRows.{LogAndRows, log_and_rows}
use Rattle.day_rows.specs.Rows.{Right, figures_of, all_figures}
use Rattle.day_report.specs.Report.{report_of}
use Rattle.log_file.specs.Read.{read_file}
use Rattle.log_file.specs.Write.{written_file}
use Rattle.claims.specs.Demand3.{Start}
use Rattle.claims.specs.RegisterToCell.{OnDay, is_skipped, comes_twice}

-- ---- the cell, as numbers

-- "0 gap, 1 empty, 2 measured, and four counts .., all 0 unless measured"
pub record Numbers : Type 0 where
  pub kind : ℕ
  pub e+ : ℕ
  pub e- : ℕ
  pub r+ : ℕ
  pub r- : ℕ

unfoldable pub numbers_of : Cell → Numbers
numbers_of Gap = record { kind = 0; e+ = 0; e- = 0; r+ = 0; r- = 0 }
numbers_of Empty = record { kind = 1; e+ = 0; e- = 0; r+ = 0; r- = 0 }
numbers_of (Measured e+ e- r+ r-) = record { kind = 2; e+ = e+; e- = e-; r+ = r+; r- = r- }

-- "low first"
abbrev pub low : ℕ → ℕ
low n = n % 256

abbrev pub high : ℕ → ℕ
high n = n / 256 % 256

-- the number of two bytes from a place on
abbrev pub two_at : List ℕ → ℕ → ℕ
two_at s at = byte_at s at + 256 * byte_at s (at + 1)

-- ""GEL", version 1 (16 bits, low first), year - 2000, month, day, days, minutes, Ke (2, low first), two zero bytes: 14 bytes"; "the file version 3" (document
-- 02, CR 7), and the seasons' byte "in the first of the two zero bytes" (CR 5)
unfoldable pub head_in : Header → List ℕ
head_in h =
    71 ∷ 69 ∷ 76 ∷ 3 ∷ 0 ∷ h.start.year ∷ h.start.month ∷ h.start.day ∷ h.days ∷ h.minutes ∷ low h.ke ∷ high h.ke ∷ h.seasons ∷ 0 ∷ []

-- ---- in memory

-- document 02, CR 9: "After its 14 header bytes the log in memory should hold all kinds at two bits each, the earlier cell in the lower bits, then all E+, all
-- E-, all R+, all R-, then the lapses": where an image of n cells has those of cell i
pub record InImage (s : List ℕ) (n i : ℕ) (c : Numbers) (lapses : ℕ) : Type 0 where
  pub at_kind : byte_at s (14 + i / 4) / 4 ^ (i % 4) % 4 ≡ c.kind
  pub at-e+ : two_at s (14 + n / 4 + 2 * i) ≡ c.e+
  pub at-e- : two_at s (14 + n / 4 + 2 * n + 2 * i) ≡ c.e-
  pub at-r+ : two_at s (14 + n / 4 + 4 * n + 2 * i) ≡ c.r+
  pub at-r- : two_at s (14 + n / 4 + 6 * n + 2 * i) ≡ c.r-
  pub at_lapses : byte_at s (14 + n / 4 + 8 * n + i) ≡ lapses

-- ---- in a file

-- "Then cells in time order, 9 bytes each: 0 gap, 1 empty, 2 measured, and four counts low first"; "Each cell gets one byte more, at its end" (CR 7)
unfoldable pub row_in : Numbers → ℕ → List ℕ
row_in c lapses =
    c.kind ∷ low c.e+ ∷ high c.e+ ∷ low c.e- ∷ high c.e- ∷ low c.r+ ∷ high c.r+ ∷ low c.r- ∷ high c.r- ∷ lapses ∷ []

-- the rows of cells from index i on
unfoldable pub rows_in : ℕ → List Cell → (ℕ → ℕ) → List ℕ
rows_in i [] lapses = []
rows_in i (c ∷ cs) lapses = row_in (numbers_of c) (lapses i) ++ rows_in (suc i) cs lapses

-- "The file is the image and its CRC-16", rows as they were before CR 9: "Files are unchanged to the byte"
unfoldable pub file_in : Header → List Cell → (ℕ → ℕ) → List ℕ
file_in h cs lapses = framed (head_in h ++ rows_in 0 cs lapses)

-- these cells are those that are seen of a log
pub record AreCells (s : List ℕ) (cs : List Cell) : Type 0 where
  pub each : (i : ℕ) → i < length cs → (view_of s).cell i ≡ Some (get_or cs i Gap)

-- ---- in a day's report

-- a number of each of n slots from one on that a test names, added up
unfoldable pub sum_where : (ℕ → Bool) → (ℕ → ℕ) → ℕ → ℕ → ℕ
sum_where there f slot zero = 0
sum_where there f slot (suc n) = cond (there slot) (f slot) 0 + sum_where there f (suc slot) n

-- what a cell counts for; bytes that are no cell count for nothing
abbrev pub of_cell : (Cell → ℕ) → Option Cell → ℕ
of_cell f (Some c) = f c
of_cell f None = 0

abbrev pub gap : Cell → ℕ
gap Gap = 1
gap Empty = 0
gap (Measured e+ e- r+ r-) = 0

abbrev pub empty : Cell → ℕ
empty Gap = 0
empty Empty = 1
empty (Measured e+ e- r+ r-) = 0

abbrev pub measured : Cell → ℕ
measured Gap = 0
measured Empty = 0
measured (Measured e+ e- r+ r-) = 1

-- "the number of gaps, empties and measured cells, and four sums of counts", over the slots of a day that exist; and `doubled`, "the lent row's eighth number",
-- "counts the measured ones among" those of the hour that comes twice (document 02, CR 5)
unfoldable pub row_on : Header → (ℕ → Option Cell) → ℕ → Date → List ℕ
row_on h cell day date =
    let slots = slots_of h.minutes in
    let sum : (ℕ → Bool) → (Cell → ℕ) → ℕ = λ there f. sum_where there (λ slot. of_cell f (cell (day * slots + slot))) 0 slots in
    let all : ℕ → Bool = λ slot. not (is_skipped h date slot) in
    sum all gap ∷ sum all empty ∷ sum all measured
    ∷ sum all (λ c. (numbers_of c).e+) ∷ sum all (λ c. (numbers_of c).e-) ∷ sum all (λ c. (numbers_of c).r+) ∷ sum all (λ c. (numbers_of c).r-)
    ∷ sum (comes_twice h date) measured ∷ []

pub record Columns : Type 0 where
  -- the log in memory: its header's bytes, and of every cell that is seen its own
  pub head : (s : List ℕ) (h : Header) → Bytes s → sound_of s ≡ Some h → take 14 s ≡ head_in h
  pub image : (s : List ℕ) (h : Header) (i : ℕ) (c : Cell) → sound_of s ≡ Some h → (view_of s).cell i ≡ Some c
      → InImage s (h.days * slots_of h.minutes) i (numbers_of c) ((view_of s).lapses i)
  -- its file: every start's is written, these bytes and no others, and they are read as that log
  pub file_written : (b : LogAndRows) (start : Start b) (cs : List Cell) (out : List ℕ) → let h = start.header in let n = h.days * slots_of h.minutes in
      length cs ≡ n → AreCells b.log cs → 14 + 10 * n + 2 ≤ length out
      → written_file (view_of b.log) out
      ≡ outcome (Ok (14 + 10 * n + 2)) (file_in h cs (view_of b.log).lapses ++ drop (14 + 10 * n + 2) out)
  pub file_read : (b : LogAndRows) (start : Start b) (cs : List Cell) (out figs : List ℕ) → let h = start.header in let n = length b.log in
      length cs ≡ h.days * slots_of h.minutes → AreCells b.log cs → n ≤ length out → figures_of h ≤ length figs
      → read_file (file_in h cs (view_of b.log).lapses) out figs
      ≡ outcome (Ok n) (log_and_rows (b.log ++ drop n out) (all_figures h (view_of b.log).cell ++ drop (figures_of h) figs))
  -- the report of a day: which number is whose
  pub reported : (b : LogAndRows) (h : Header) (day : ℕ) (date : Date) (row : List ℕ) → sound_of b.log ≡ Some h → Right h (view_of b.log).cell b.figures
      → day < h.days → OnDay h day date → 8 ≤ length row
      → report_of (sound_of b.log) b.figures day row ≡ outcome (Ok tt) (written row 0 (row_on h (view_of b.log).cell day date))
