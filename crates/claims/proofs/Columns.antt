-- Where a cell's counts stand: the image's places, the file's rows and the report's sums, each by the definition that its contract cites, counted out.
use mathlib.Core.Path.{◌≡◌, refl, sym, ap, ap₂, subst, ◌∙◌}
use mathlib.Core.Bool.{Bool, true, false, cond, not}
use mathlib.Core.List.{List, [], ◌∷◌, ◌++◌, map}
use Prim.Native.Nat.{ℕ, zero, suc, ◌+◌, ◌*◌, ◌/◌, ◌≤◌, ◌<◌}
use native.Mathlib.Nat.{add-zero, add-suc}
use native.Mathlib.Omega.{arith}
use borrow.Author.Tests.{lt-ltb}
use lib.Dec.{ltb}
use lib.ListN.{length, take, drop, get_or}
use lib.Seq.{ext_get_or}
use Rattle.std.specs.Prelude.{None, Ok, Option, Some}
use Rattle.refusal.specs.Outcome.{outcome}
use Rattle.test_laws.proofs.Test.{chosen}
use Rattle.byte_numbers.specs.Number.{Bytes, bytes_of}
use Rattle.byte_numbers.specs.Place.{number_at, written}
use Rattle.frame.specs.Sealing.{framed}
use Rattle.calendar.specs.Date.{is_date}
use Rattle.calendar.specs.declared.date.Date.{Date}
use Rattle.slots.specs.Day.{slots_of}
use Rattle.byte_numbers.proofs.ByteLaws.{two}
use Rattle.log_cell.proofs.CellLaws.{bad≢good, kind-of}
use Rattle.log_header.proofs.HeaderLaws.{header-ranges, sound-front, sound-log}
use Rattle.energy_log.proofs.ImageLaws.{cells_at_lem}
use Rattle.log_header.proofs.IntervalLaws.{exists-index, twice-index}
use Rattle.energy_log.proofs.ViewLaws.{cell_in_lem}
use Rattle.log_cell.specs.Cell.{kind_of, e_plus_of, e_minus_of, r_plus_of, r_minus_of, kind_bytes, counts_bytes, kind_cell}
use Rattle.log_header.specs.Header.{cells_of, date_bytes, header_bytes_as, header_bytes, sound_of}
use Rattle.energy_log.specs.Image as image
use Rattle.energy_log.specs.Image.{cells_at, read_among, cell_among, lapses_among, cell_at, lapses_at, goods}
use Rattle.log_header.specs.Interval.{exists_at, comes_twice_at}
use Rattle.energy_log.specs.Pair.{pair_of}
use Rattle.energy_log.specs.Walk.{Place, place_at, seen_from, day_walk, keep, existing, cells_seen}
use Rattle.energy_log.specs.View.{View, view_of}
use Rattle.log_cell.specs.declared.cell.Cell.{Cell}
use Rattle.log_cell.specs.declared.cell.Cell.TheVariants.{Gap, Empty, Measured}
use Rattle.log_header.specs.declared.header.Header.{Header}
use Rattle.day_rows.specs.LogAndRows.{LogAndRows, log_and_rows}
use Rattle.day_rows.specs.Figures.{figures, day_cells, twice_cells}
use Rattle.day_rows.specs.Rows.{Right, walked, figures_of, all_figures}
use Rattle.day_rows.specs.Tallies.{tallies, report_row, plus, tallies_in, tallies_of}
use Rattle.day_rows.specs.declared.tallies.Tallies.{Tallies}
use Rattle.day_rows.proofs.RowsLaws.{right-enough}
use Rattle.day_report.specs.Report.{report_of}
use Rattle.log_file.proofs.FileLaws.{written-file, image-seen}
use Rattle.log_file.proofs.RowLaws.{rows_alike}
use Rattle.log_file.specs.File.{file_bytes_as, file_bytes, file_length_as, file_length}
use Rattle.log_file.specs.Read.{read_file}
use Rattle.log_file.specs.Row.{has_lapses, row_size_of, row_bytes, row_start, rows_bytes}
use Rattle.log_file.specs.Write.{written_file}
use Rattle.claims.specs.Columns.{Numbers, numbers_of, two_at, head_in, InImage, row_in, rows_in, file_in, AreCells, sum_where, of_cell, gap, empty, measured, row_on}
use Rattle.claims.specs.Demand3.{Start}
use Rattle.claims.specs.RegisterToCell.{OnDay, is_skipped, comes_twice}
use Rattle.claims.proofs.DayFigures.{copies}
use Rattle.claims.proofs.History as history
use Rattle.claims.proofs.RegisterToCell.{exists-on, twice-on}
use Rattle.claims.proofs.History.{start_is, start_seen, start-faithful}

-- ---- in memory

header_is : (h : Header) → header_bytes h ≡ head_in h
unfolding header_bytes_as date_bytes bytes_of head_in
header_is h = refl

-- the columns' `head`: the log in memory begins with the header's 14 bytes, as the papers have them
pub head : (s : List ℕ) (h : Header) → Bytes s → sound_of s ≡ Some h → take 14 s ≡ head_in h
head s h bytes p = sound-front s h bytes p ∙ header_is h

-- a cell's numbers by the log's words
numbers-are : (c : Cell) → record { kind = kind_of c; e+ = e_plus_of c; e- = e_minus_of c; r+ = r_plus_of c; r- = r_minus_of c } ≡ numbers_of c
unfolding numbers_of
numbers-are Gap = refl
numbers-are Empty = refl
numbers-are (Measured e+ e- r+ r-) = refl

-- two bytes at a place
at_place : (s : List ℕ) (p q n : ℕ) → p ≡ q → number_at s p 2 ≡ n → two_at s q ≡ n
at_place s p q n e k = let w = two s q in omega (arith, w, ap (λ (x : ℕ). number_at s x 2) e, k)

module _ (n : ℕ) (s : List ℕ) (i : ℕ) (c : Cell) (p : cell_among n s i ≡ Some c) where
  read_as : (ltb i n ≡ true) × (kind_cell (image.kind_at s i) (image.count_at n s i) (image.count_at n s (n + i)) (image.count_at n s (2 * n + i)) (image.count_at n s (3 * n + i)) ≡ Some c)
  unfolding read_among
  read_as = chosen (ltb i n) _ None p (bad≢good c)

  among : InImage s n i (numbers_of c) (lapses_among n s i)
  unfolding pair_of lapses_among
  among =
      let w = read_as in
      let k = kind-of (image.kind_at s i) (image.count_at n s i) (image.count_at n s (n + i)) (image.count_at n s (2 * n + i)) (image.count_at n s (3 * n + i)) c w.1 in
      record {
        at_kind = k.kind-is ∙ ap (λ (x : Numbers). x.kind) (numbers-are c);
        at-e+ = at_place s _ _ _ refl (k.e+-is ∙ ap (λ (x : Numbers). x.e+) (numbers-are c));
        at-e- = at_place s (image.count_place n (n + i)) (14 + n / 4 + 2 * n + 2 * i) _ (omega arith) (k.e--is ∙ ap (λ (x : Numbers). x.e-) (numbers-are c));
        at-r+ = at_place s (image.count_place n (2 * n + i)) (14 + n / 4 + 4 * n + 2 * i) _ (omega arith) (k.r+-is ∙ ap (λ (x : Numbers). x.r+) (numbers-are c));
        at-r- = at_place s (image.count_place n (3 * n + i)) (14 + n / 4 + 6 * n + 2 * i) _ (omega arith) (k.r--is ∙ ap (λ (x : Numbers). x.r-) (numbers-are c));
        at_lapses = sym (simp w.0);
      }

-- the columns' `image`, CR 9: where kind, counts and lapses of a cell that is seen stand in memory
pub image-of : (s : List ℕ) (h : Header) (i : ℕ) (c : Cell) → sound_of s ≡ Some h → (view_of s).cell i ≡ Some c
    → InImage s (h.days * slots_of h.minutes) i (numbers_of c) ((view_of s).lapses i)
unfolding cell_at lapses_at cells_of
image-of s h i c p g =
    let n : cells_at s ≡ h.days * slots_of h.minutes = cells_at_lem s h p in
    let seen : cell_at s i ≡ Some c = rw p at g in
    let here : InImage s (cells_at s) i (numbers_of c) (lapses_at s i) = among (cells_at s) s i c seen in
    rw p (subst (λ (n : ℕ). InImage s n i (numbers_of c) (lapses_at s i)) n here)

-- ---- in a file

row_is : (c : Cell) (lapses : ℕ) → row_bytes 3 c lapses ≡ row_in (numbers_of c) lapses
unfolding row_bytes counts_bytes kind_bytes has_lapses bytes_of row_in numbers_of
row_is Gap lapses = refl
row_is Empty lapses = refl
row_is (Measured e+ e- r+ r-) lapses = refl

rows_are : (i : ℕ) (cs : List Cell) (lapses : ℕ → ℕ) → rows_bytes 3 i cs lapses ≡ rows_in i cs lapses
unfolding rows_bytes rows_in
rows_are i [] lapses = refl
rows_are i (c ∷ cs) lapses = ap₂ (λ (x y : List ℕ). x ++ y) (row_is c (lapses i)) (rows_are (suc i) cs lapses)

file-is : (h : Header) (cs : List Cell) (lapses : ℕ → ℕ) → file_bytes h cs lapses ≡ file_in h cs lapses
unfolding file_bytes_as file_in
file-is h cs lapses = ap₂ (λ (x y : List ℕ). framed (x ++ y)) (header_is h) (rows_are 0 cs lapses)

-- "At most 59,536 bytes"
file-size : (h : Header) → file_length h ≡ 14 + 10 * (h.days * slots_of h.minutes) + 2
unfolding file_length_as row_start row_size_of has_lapses cells_of
file-size h = refl

module _ (b : LogAndRows) (start : Start b) (cs : List Cell) (count : length cs ≡ start.header.days * slots_of start.header.minutes) (are : AreCells b.log cs) where
  abbrev h : Header
  h = start.header

  good-same : (c d : Cell) → Some c ≡ Some d → c ≡ d
  good-same c d p = cc

  same_count : length cs ≡ length start.cells
  unfolding cells_of
  same_count = count ∙ sym start.count

  -- the cells that are seen are the start's
  same-cells : cs ≡ start.cells
  same-cells =
      ext_get_or Gap cs start.cells same_count
      (λ i l.
      good-same (get_or cs i Gap) (get_or start.cells i Gap)
      (sym (are.each i l) ∙ ap (λ (v : View). v.cell i) (start_seen start) ∙ cell_in_lem start.cells i (omega (arith, l, same_count))))

  same-lapses : (j : ℕ) → j < length start.cells → start.lapses j ≡ (view_of b.log).lapses j
  same-lapses j l = sym (ap (λ (v : View). v.lapses j) (start_seen start) ∙ simp (lt-ltb j (length start.cells) l))

  same-file : file_bytes h start.cells start.lapses ≡ file_in h cs (view_of b.log).lapses
  unfolding file_bytes_as
  same-file =
      ap (λ (x : List ℕ). framed (header_bytes h ++ x)) (rows_alike 3 start.cells start.lapses (view_of b.log).lapses same-lapses)
      ∙ ap (λ (x : List Cell). file_bytes h x (view_of b.log).lapses) (sym same-cells) ∙ file-is h cs (view_of b.log).lapses

  seen : seen_from (cell_at b.log) 0 (cells_of h) ≡ map Some start.cells
  seen = ap (λ (s : List ℕ). seen_from (cell_at s) 0 (cells_of h)) start.image ∙ image-seen h start.cells start.lapses (start_is start)

  lapses-at : (j : ℕ) → j < length start.cells → lapses_at b.log j ≡ start.lapses j
  lapses-at j l = let p = (start-faithful start).sound in sym (rw p at (same-lapses j l))

  -- the columns' `file_written`: a start's file is written with these bytes and no others
  pub file_written : (out : List ℕ) → let n = h.days * slots_of h.minutes in 14 + 10 * n + 2 ≤ length out
      → written_file (view_of b.log) out
      ≡ outcome (Ok (14 + 10 * n + 2)) (file_in h cs (view_of b.log).lapses ++ drop (14 + 10 * n + 2) out)
  file_written out room =
      let size = file-size h in
      written-file b.log out h start.cells start.lapses (start-faithful start).sound seen lapses-at (start_is start) (omega (arith, size, room))
      ∙ ap₂ (λ (n : ℕ) (f : List ℕ). outcome (Ok n) (f ++ drop n out)) size same-file

  -- the columns' `file_read`: and those bytes are read as that log, with its figures
  pub file_read : (out figs : List ℕ) → let n = length b.log in n ≤ length out → figures_of h ≤ length figs
      → read_file (file_in h cs (view_of b.log).lapses) out figs
      ≡ outcome (Ok n) (log_and_rows (b.log ++ drop n out) (all_figures h (view_of b.log).cell ++ drop (figures_of h) figs))
  file_read out figs l m = ap (λ (f : List ℕ). read_file f out figs) (sym same-file) ∙ history.today-had b out figs start l m

-- ---- in a day's report

-- a number of tallies that adds up, and what a cell counts for in it
record Adds (p : Tallies → ℕ) (f : Cell → ℕ) : Type 0 where
  none : p (tallies_of []) ≡ 0
  more : (c : Cell) (cs : List Cell) → p (tallies_of (c ∷ cs)) ≡ f c + p (tallies_of cs)

module _ (p : Tallies → ℕ) (f : Cell → ℕ) (a : Adds p f) (test : Place → Bool) (seen : ℕ → Place) where
  abbrev sum_from : ℕ → ℕ → ℕ
  sum_from i n = sum_where (λ j. test (seen j)) (λ j. of_cell f (seen j).cell) i n

  sum_is : (i n : ℕ) → p (tallies_of (goods (cells_seen (keep test (seen_from seen i n))))) ≡ sum_from i n
  unfolding seen_from keep sum_where goods
  sum_is i zero = a.none
  sum_is i (suc n) = go (sum_is (suc i) n) (test (seen i)) (seen i).cell refl
    where
      kept : List Place
      kept = keep test (seen_from seen (suc i) n)

      go : p (tallies_of (goods (cells_seen kept))) ≡ sum_from (suc i) n → (b : Bool) (x : Option Cell) → (seen i).cell ≡ x
          → p (tallies_of (goods (cells_seen (cond b (seen i ∷ kept) kept)))) ≡ cond b (of_cell f (seen i).cell) 0 + sum_from (suc i) n
      go rest true (Some c) e = rw e (a.more c (goods (cells_seen kept)) ∙ ap (λ (m : ℕ). f c + m) rest)
      go rest true None e = rw e (rest ∙ omega arith)
      go rest false x e = rest ∙ omega arith

-- what a cell counts for in each of the seven numbers, and that they add up
tallied : (c : Cell) → tallies_in c ≡ tallies (gap c) (empty c) (measured c) (numbers_of c).e+ (numbers_of c).e- (numbers_of c).r+ (numbers_of c).r-
unfolding tallies_in numbers_of
tallied Gap = refl
tallied Empty = refl
tallied (Measured e+ e- r+ r-) = refl

gaps-add : Adds (λ t. t.gaps) gap
unfolding tallies_of plus
gaps-add = record { none = refl; more = λ c cs. ap (λ (t : Tallies). t.gaps + (tallies_of cs).gaps) (tallied c) }

empties-add : Adds (λ t. t.empties) empty
unfolding tallies_of plus
empties-add = record { none = refl; more = λ c cs. ap (λ (t : Tallies). t.empties + (tallies_of cs).empties) (tallied c) }

measured-add : Adds (λ t. t.measured) measured
unfolding tallies_of plus
measured-add = record { none = refl; more = λ c cs. ap (λ (t : Tallies). t.measured + (tallies_of cs).measured) (tallied c) }

ep-add : Adds (λ t. t.ep) (λ c. (numbers_of c).e+)
unfolding tallies_of plus
ep-add = record { none = refl; more = λ c cs. ap (λ (t : Tallies). t.ep + (tallies_of cs).ep) (tallied c) }

em-add : Adds (λ t. t.em) (λ c. (numbers_of c).e-)
unfolding tallies_of plus
em-add = record { none = refl; more = λ c cs. ap (λ (t : Tallies). t.em + (tallies_of cs).em) (tallied c) }

rp-add : Adds (λ t. t.rp) (λ c. (numbers_of c).r+)
unfolding tallies_of plus
rp-add = record { none = refl; more = λ c cs. ap (λ (t : Tallies). t.rp + (tallies_of cs).rp) (tallied c) }

rm-add : Adds (λ t. t.rm) (λ c. (numbers_of c).r-)
unfolding tallies_of plus
rm-add = record { none = refl; more = λ c cs. ap (λ (t : Tallies). t.rm + (tallies_of cs).rm) (tallied c) }

-- the same over the slots of a day
module _ (there at : ℕ → Bool) (f : ℕ → ℕ) (from slots : ℕ) (same : (slot : ℕ) → slot < slots → at (from + slot) ≡ there slot) where
  by_slots : (k n : ℕ) → k + n ≤ slots → sum_where at f (from + k) n ≡ sum_where there (λ slot. f (from + slot)) k n
  unfolding sum_where
  by_slots k zero l = refl
  by_slots k (suc n) l =
      ap₂ (λ (b : Bool) (m : ℕ). cond b (f (from + k)) 0 + m) (same k (omega arith))
      (ap (λ (i : ℕ). sum_where at f i n) (sym (add-suc from k)) ∙ by_slots (suc k) n (omega arith))

module _ (h : Header) (cell : ℕ → Option Cell) (day : ℕ) (date : Date) (on : OnDay h day date) (start : is_date h.start ≡ true) where
  abbrev slots : ℕ
  slots = slots_of h.minutes

  abbrev from : ℕ
  from = day * slots

  abbrev there : ℕ → Bool
  there slot = not (is_skipped h date slot)

  abbrev placed : ℕ → Place
  placed = place_at h cell (λ i. 0)

  sums : (p : Tallies → ℕ) (f : Cell → ℕ) (here : ℕ → Bool) (test : Place → Bool) → Adds p f → ((slot : ℕ) → slot < slots → test (placed (from + slot)) ≡ here slot)
      → p (tallies_of (goods (cells_seen (keep test (day_walk h cell day))))) ≡ sum_where here (λ slot. of_cell f (cell (from + slot))) 0 slots
  sums p f here test a same =
      sum_is p f a test placed from slots ∙ ap (λ (i : ℕ). sum_where (λ j. test (placed j)) (λ j. of_cell f (cell j)) i slots) (sym (add-zero from))
      ∙ by_slots here (λ j. test (placed j)) (λ j. of_cell f (cell j)) from slots same 0 slots (omega arith)

  in-day : (slot : ℕ) → slot < slots → exists_at h (from + slot) ≡ there slot
  in-day slot l = exists-index h day slot l ∙ exists-on h day slot date on start

  doubled : (slot : ℕ) → slot < slots → comes_twice_at h (from + slot) ≡ comes_twice h date slot
  doubled slot l = twice-index h day slot l ∙ twice-on h day slot date on start

  row-sums : walked h cell day ≡ row_on h cell day date
  unfolding walked figures report_row day_cells twice_cells row_on
  row-sums =
      let sum : (p : Tallies → ℕ) (f : Cell → ℕ) → Adds p f
      → p (tallies_of (goods (cells_seen (existing (day_walk h cell day))))) ≡ sum_where there (λ slot. of_cell f (cell (from + slot))) 0 slots =
      λ p f a. sums p f there (λ q. q.there) a in-day in
      rw (
        sum _ _ gaps-add,
        sum _ _ empties-add,
        sum _ _ measured-add,
        sum _ _ ep-add,
        sum _ _ em-add,
        sum _ _ rp-add,
        sum _ _ rm-add,
        sums _ _ (comes_twice h date) (λ q. q.twice) measured-add doubled,
      ) refl

-- the columns' `reported`: which number of a day's row is whose, over the slots of the day that exist
pub reported : (b : LogAndRows) (h : Header) (day : ℕ) (date : Date) (row : List ℕ) → sound_of b.log ≡ Some h → Right h (view_of b.log).cell b.figures
    → day < h.days → OnDay h day date → 8 ≤ length row
    → report_of (sound_of b.log) b.figures day row ≡ outcome (Ok tt) (written row 0 (row_on h (view_of b.log).cell day date))
reported b h day date row p right l on m =
    let start = (header-ranges h (sound-log b.log h p).ranges).start in
    ap (λ (x : Option Header). report_of x b.figures day row) p
    ∙ copies h b.figures day row l m (right-enough h (view_of b.log).cell b.figures right)
    ∙ ap (λ (x : List ℕ). outcome (Ok tt) (written row 0 x)) (right.rows day l ∙ row-sums h (view_of b.log).cell day date on start)
