-- Demand 3: a list of calls by its steps, the start, and what a call leaves alone.
use mathlib.Core.Path.{◌≡◌, refl, sym, ap, ap₂, subst, ◌∙◌}
use mathlib.Core.Bool.{Bool, true, false, cond, not, ◌||◌, false≢true}
use mathlib.Core.List.{List, [], ◌∷◌, ◌++◌}
use Prim.Native.Nat.{ℕ, ◌<◌, ◌≤◌}
use native.Mathlib.Nat.{zero-add}
use native.Mathlib.Omega.{arith}
use borrow.Author.Tests.{ltb-true, ltb-false, le-leb, leb-false, eq-eqb}
use lib.Dec.{ltb, leb, eqb}
use lib.ListN.{length, take, drop, get_or, get_or-eq_default}
use lib.Seq.{ext_get_or}
use Rattle.std.specs.Prelude.{Ok, Option, Result}
use Rattle.refusal.specs.Outcome.{Outcome, outcome}
use Rattle.byte_numbers.specs.Number.{Bytes}
use Rattle.byte_numbers.specs.Place.{byte_at}
use Rattle.log_cell.specs.Cell.{is_cell, no_counts, IsCell}
use Rattle.log_cell.proofs.CellLaws.{gap-is-cell}
use Rattle.energy_log.specs.Fresh.{fresh_image, gaps, no_lapses}
use Rattle.energy_log.proofs.FreshLaws.{length-gaps, gap_at}
use Rattle.log_header.specs.Header.{version, is_header, cells_of, length_of}
use Rattle.energy_log.specs.Image.{applied, image_of, cell_at, AllCells, LapsesFit}
use Rattle.energy_log.proofs.ImageLaws.{image-alike, sound-image, bytes-image}
use Rattle.energy_log.specs.declared.image.Change.{Change}
use Rattle.energy_log.specs.declared.image.Change.TheVariants as change
use Rattle.energy_log.specs.declared.fresh.FreshError.{FreshError}
use Rattle.energy_log.specs.View.{View, view_of}
use Rattle.energy_log.proofs.ViewLaws as layout
use Rattle.energy_log.proofs.ViewLaws.{Holds, At, view_by, view-image, others_stay, length-applied}
use Rattle.energy_log.specs.Pair.{pair_of}
use Rattle.log_cell.specs.declared.cell.Cell.{Cell}
use Rattle.log_cell.specs.declared.cell.Cell.TheVariants.{Gap, Empty, Measured}
use Rattle.log_header.specs.declared.header.Header.{Header}
use Rattle.day_rows.specs.LogAndRows.{LogAndRows, log_and_rows}
use Rattle.wire_values.specs.Row.{row}
use Rattle.day_rows.specs.Fresh.{fresh_with}
use Rattle.day_rows.specs.Rows.{figures_of, Right, all_figures, all_gaps}
use Rattle.day_rows.proofs.FreshLaws.{fresh-made, fresh-both}
use Rattle.logger.specs.Take as Take
use Rattle.logger.proofs.TakeLaws.{Step, decided-ways, decided-holds}
use Rattle.logger.specs.Lapse as Lapse
use Rattle.logger.proofs.LapseLaws.{lapsing-ways, lapsing-holds}
use Rattle.logger.specs.Lapse.{LapseDecision}
use Rattle.logger.specs.Book.{Call, ask, lapse, reply, Answer, Book, is_zero, counts, first_of, by_first, afresh, came_first, start_book, book_step, run_of, book_run}
use Rattle.logger.specs.Book.{worked_out, cut_at255, lapses_out, CallBytes, AllBytes}
use Rattle.logger.proofs.BookLaws.{Fitting, length-worked_out, worked_out-at}
use Rattle.logger.specs.Run.{State, step, run}
use Rattle.logger.proofs.StepLaws.{state_of, Sane, step-agrees, step-sane}
use Rattle.logger.proofs.FigureLaws.{Faithful, step-faithful}
use Rattle.log_file.specs.File.{is_version, seasons_fit, file_bytes, file_bytes_as}
use Rattle.log_file.specs.Row.{has_lapses}
use Rattle.log_file.specs.Read.{read_file}
use Rattle.log_file.proofs.FileLaws as logs
use Rattle.log_file.proofs.RowLaws.{NoneBefore}
use Rattle.log_file.proofs.FileLaws.{IsLog, known-today, seasons-today, lapses-today, accepted, image-front}
use Rattle.log_file.specs.declared.read.ReadError.{ReadError}
use Rattle.polling.specs.Reached.{Polled}
use Rattle.claims.specs.Demand3.{Start, begin, ran, booked, log_afresh, OtherCell, Elsewhere, SameCell}

-- ---- a list of calls

-- calls in the log and in the plain book from the same state: the same answers, and a state that is again the book's
pub record Together (h : Header) (b : Book) (figs : List ℕ) (calls : List Call) : Type 0 where
  pub answers : (run (state_of h b figs) calls).result ≡ (book_run h b calls).result
  pub state : let s = (run (state_of h b figs) calls).left in s ≡ state_of h (book_run h b calls).left s.figures

-- log and book stay together over any list of calls, from a state that is faithful to its figures
pub together : (h : Header) (b : Book) (figs : List ℕ) (calls : List Call) → is_header h ≡ true → Sane h b → AllBytes calls → Faithful h (state_of h b figs)
    → Together h b figs calls
unfolding run_of
together h b figs [] e s k f = record { answers = refl; state = refl }
together h b figs (c ∷ calls) e s k f =
    let a = step-agrees h b figs c e s k.0 f.right in
    let after = (step (state_of h b figs) c).left in
    let faithful = subst (Faithful h) a.state (step-faithful h (state_of h b figs) c k.0 f) in
    let rest = together h (book_step h b c).left after.figures calls e (step-sane h b c s k.0) k.1 faithful in
    let same : run after calls ≡ run (state_of h (book_step h b c).left after.figures) calls = ap (λ (t : State). run t calls) a.state in
    record {
      answers = ap₂ (λ (x : Answer) (xs : List Answer). x ∷ xs)
          a.answer (ap (λ (o : Outcome (List Answer) State). o.result) same ∙ rest.answers);
      state = subst (λ (o : Outcome (List Answer) State). o.left ≡ state_of h (book_run h (book_step h b c).left calls).left o.left.figures) (sym same) rest.state;
    }

-- ---- the start

-- a cell, worked out from itself as the reply that came first
afresh-first : (c : Cell) → is_cell c ≡ true → afresh (came_first c) ≡ c
unfolding afresh came_first first_of by_first is_zero is_cell no_counts
afresh-first Gap e = refl
afresh-first Empty e = refl
afresh-first (Measured a b c d) e = go (no_counts a b c d) e
  where
    go : (z : Bool) → not z ≡ true
        → by_first (cond z (first_of []) (counts (row a b c d))) (row a b c d ∷ [])
        ≡ Measured a b c d
    go true e = absurd (false≢true e)
    go false e = refl

first_fits : (c : Cell) → IsCell c → Fitting (came_first c)
unfolding came_first
first_fits Gap k = tt
first_fits Empty k = (record { e_plus = omega arith; e_minus = omega arith; r_plus = omega arith; r_minus = omega arith }, tt)
first_fits (Measured a b c d) k = (k.fits, tt)

cell-anywhere : (cells : List Cell) → AllCells cells → (i : ℕ) → IsCell (get_or cells i Gap)
cell-anywhere cells k i = go (ltb i (length cells)) refl
  where
    go : (b : Bool) → ltb i (length cells) ≡ b → IsCell (get_or cells i Gap)
    go true e = k i (ltb-true i (length cells) e)
    go false e = rw (get_or-eq_default cells Gap (ltb-false i (length cells) e)) gap-is-cell

-- the book of a start has no ask open and rows that fit, as a book keeps to
pub start-sane : (h : Header) (cells : List Cell) (lapses : ℕ → ℕ) → AllCells cells → Sane h (start_book cells lapses)
unfolding start_book
start-sane h cells lapses k = record { inside = tt; rows = λ i. first_fits (get_or cells i Gap) (cell-anywhere cells k i) }

-- the cells worked out from the book of a start are the start's own
pub start-cells : (cells : List Cell) (lapses : ℕ → ℕ) (n : ℕ) → length cells ≡ n → AllCells cells → worked_out (start_book cells lapses).kept 0 n ≡ cells
unfolding start_book
start-cells cells lapses n e k =
    let kept = (start_book cells lapses).kept in
    let size : length (worked_out kept 0 n) ≡ n = length-worked_out kept 0 n in
    ext_get_or Gap (worked_out kept 0 n) cells (size ∙ sym e)
    (λ i l.
    worked_out-at kept 0 n i (rw size at l)
    ∙ ap (λ (j : ℕ). afresh (kept j)) (zero-add i)
    ∙ afresh-first (get_or cells i Gap) (cell-anywhere cells k i).right)

-- what a byte holds is not cut
not-cut : (n : ℕ) → n < 256 → cut_at255 n ≡ n
unfolding cut_at255
not-cut n l = go (ltb n 255) refl
  where
    go : (b : Bool) → ltb n 255 ≡ b → cond b n 255 ≡ n
    go true p = refl
    go false p = omega (arith, ltb-false n 255 p)

-- so a start's log with no ask open is the state of its book
pub start-state : (h : Header) (cells : List Cell) (lapses : ℕ → ℕ) (figs : List ℕ) → length cells ≡ cells_of h → AllCells cells → LapsesFit lapses
    → state_of h (start_book cells lapses) figs ≡ begin (log_and_rows (image_of h cells lapses) figs)
unfolding start_book
start-state h cells lapses figs e k f =
    ap (λ (l : List Cell). begin (log_and_rows (image_of h l (lapses_out lapses)) figs)) (start-cells cells lapses (cells_of h) e k)
    ∙ ap (λ (s : List ℕ). begin (log_and_rows s figs)) (image-alike h cells (lapses_out lapses) lapses (λ i l. not-cut (lapses i) (f i)))

-- ---- what a call leaves alone

bits-stay : (s : State) (y : List ℕ) (q j : ℕ) → j < 4 → Elsewhere s q j
    → pair_of (byte_at (Take.taken (log_and_rows s.log s.figures) s.held y).left.log q) j ≡ pair_of (byte_at s.log q) j
unfolding Take.taken applied
bits-stay s y q j l k =
    decided-ways (λ (o : Step). pair_of (byte_at (applied o.result.change s.log) q) j ≡ pair_of (byte_at s.log q) j) (view_of s.log) s.figures s.held y
    (record {
      kept-open = λ a n. refl;
      closed = λ a n. refl;
      put = λ h i old c e o g is done. layout.elsewhere s.log h (change.Put i c) i q j e refl l (k h i e o);
    })

lapse-stays : (s : State) (q j : ℕ) → j < 4 → Elsewhere s q j → pair_of (byte_at (Lapse.lapsed s.log s.held).left q) j ≡ pair_of (byte_at s.log q) j
unfolding Lapse.lapsed applied
lapse-stays s q j l k =
    lapsing-ways (λ (d : LapseDecision). pair_of (byte_at (applied d.change s.log) q) j ≡ pair_of (byte_at s.log q) j) (view_of s.log) s.held (record {
      none = λ e. refl;
      refused = λ a n. refl;
      counted = λ h i e o. layout.elsewhere s.log h (change.Lapses i (Lapse.one_more ((view_of s.log).lapses i))) i q j e refl l (k h i e o);
    })

-- demand 3's `elsewhere`, CR 9: a call alters no pair of bits outside those that hold the cell whose ask was open
pub elsewhere : (s : State) (c : Call) (q j : ℕ) → j < 4 → Elsewhere s q j → pair_of (byte_at (step s c).left.log q) j ≡ pair_of (byte_at s.log q) j
unfolding step
elsewhere s (ask address day slot out) q j l k = refl
elsewhere s lapse q j l k = lapse-stays s q j l k
elsewhere s (reply y) q j l k = bits-stay s y q j l k

-- a change of one cell that the log can hold leaves every other
same_cell : (s : List ℕ) (ch : Change) (i j : ℕ) → Holds (view_of s) ch → At ch i → (j ≡ i → ⊥) → SameCell (applied ch s) s j
same_cell s ch i j k a ne = let w = others_stay s ch i j k a ne in record { cell = w.0; lapses = w.1 }

unchanged : (s : List ℕ) (j : ℕ) → SameCell (applied change.None s) s j
unfolding applied
unchanged s j = record { cell = refl; lapses = refl }

reply-others : (s : State) (y : List ℕ) (j : ℕ) → Bytes y → OtherCell s j → SameCell (Take.taken (log_and_rows s.log s.figures) s.held y).left.log s.log j
unfolding Take.taken
reply-others s y j b k =
    decided-ways (λ (o : Step). Holds (view_of s.log) o.result.change → SameCell (applied o.result.change s.log) s.log j)
    (view_of s.log) s.figures s.held y (record {
      kept-open = λ a n x. unchanged s.log j;
      closed = λ a n x. unchanged s.log j;
      put = λ h i old c e o g is done x. same_cell s.log (change.Put i c) i j x refl (k h i e o);
    })
    (decided-holds (view_of s.log) s.figures s.held y b)

lapse-others : (s : State) (j : ℕ) → OtherCell s j → SameCell (Lapse.lapsed s.log s.held).left s.log j
unfolding Lapse.lapsed
lapse-others s j k =
    lapsing-ways (λ (d : LapseDecision). Holds (view_of s.log) d.change → SameCell (applied d.change s.log) s.log j) (view_of s.log) s.held (record {
      none = λ e x. unchanged s.log j;
      refused = λ a n x. unchanged s.log j;
      counted = λ h i e o x. same_cell s.log (change.Lapses i (Lapse.one_more ((view_of s.log).lapses i))) i j x refl (k h i e o);
    })
    (lapsing-holds (view_of s.log) s.held)

-- demand 3's `others`: a call alters no cell, and no count of lapses, but those of the cell whose ask was open
pub others : (s : State) (c : Call) (j : ℕ) → CallBytes c → OtherCell s j → SameCell (step s c).left.log s.log j
unfolding step
others s (ask address day slot out) j b k = record { cell = refl; lapses = refl }
others s lapse j b k = lapse-others s j k
others s (reply y) j b k = reply-others s y j b k

-- demand 3's `as_long`: no call alters how long the log is
pub as_long : (s : State) (c : Call) → length (step s c).left.log ≡ length s.log
unfolding step Take.taken Lapse.lapsed
as_long s (ask address day slot out) = refl
as_long s lapse = length-applied (Lapse.lapsing (view_of s.log) s.held).change s.log
as_long s (reply y) = length-applied (Take.decided (view_of s.log) s.figures s.held y).result.change s.log

-- ---- from every start

-- what is seen of an image's cells
cells-seen : (h : Header) (cells : List Cell) (lapses : ℕ → ℕ) → is_header h ≡ true → length cells ≡ cells_of h
    → (view_of (image_of h cells lapses)).cell ≡ cell_at (image_of h cells lapses)
cells-seen h cells lapses e n = rw (sound-image lapses h cells e n) refl

-- the fresh log that `fresh_log` says is done, and its figures
pub fresh : (h : Header) (out figs : List ℕ) (n : ℕ) → let o = fresh_with h out figs in o.result ≡ Ok n
    → Start (log_and_rows (take n o.left.log) o.left.figures)
unfolding fresh_image
fresh h out figs n p =
    let o = fresh_with h out figs in
    let a = fresh-made h out figs o.left n (ap (λ (r : Result ℕ FreshError). outcome r o.left) p) in
    let count = length-gaps (cells_of h) in
    subst (λ (s : List ℕ). Start (log_and_rows s o.left.figures)) (sym a.image) (record {
      header = h;
      cells = gaps (cells_of h);
      lapses = no_lapses;
      right = a.header;
      count = count;
      each = λ i l. rw (gap_at (cells_of h) i (rw length-gaps at l)) gap-is-cell;
      fit = λ i. omega arith;
      gaps = λ i l x. gap_at (cells_of h) i (rw length-gaps at l);
      quiet = λ i l x. refl;
      image = refl;
      figures = subst (λ (cell : ℕ → Option Cell). Right h cell o.left.figures) (sym (cells-seen h (gaps (cells_of h)) no_lapses a.header count)) a.right;
    })

-- demand 3's `file`: what `read_file` says is done is a log to start from, with its figures
pub file : (f out figs : List ℕ) (n : ℕ) → Bytes f → let o = read_file f out figs in o.result ≡ Ok n
    → Start (log_and_rows (take n o.left.log) o.left.figures)
file f out figs n k p =
    let o = read_file f out figs in
    let a = accepted f k out figs o.left.log o.left.figures n (ap (λ (r : Result ℕ ReadError). outcome r o.left) p) in
    let w = a.whole in
    subst (λ (s : List ℕ). Start (log_and_rows s o.left.figures)) (sym (image-front f out figs o.left.log o.left.figures n a)) (record {
      header = a.header;
      cells = a.cells;
      lapses = a.lapses;
      right = w.right;
      count = w.count;
      each = w.each;
      fit = w.fit;
      gaps = w.gaps;
      quiet = w.none;
      image = refl;
      figures = subst (λ (cell : ℕ → Option Cell). Right a.header cell o.left.figures) (sym (cells-seen a.header a.cells a.lapses w.right w.count))
          a.right;
    })

-- demand 3's `fresh_had`: with the room for it, every right header's fresh log is made
pub fresh_had : (h : Header) (out figs : List ℕ) → is_header h ≡ true → length_of h ≤ length out → figures_of h ≤ length figs
    → fresh_with h out figs
    ≡ outcome (Ok (length_of h)) (log_and_rows (fresh_image h ++ drop (length_of h) out) (all_figures h all_gaps ++ drop (figures_of h) figs))
fresh_had h out figs e l m = fresh-both h out figs e l m

-- what stands in a start's file
pub start_is : {b : LogAndRows} (start : Start b) → IsLog start.header start.cells start.lapses
start_is start =
    record { right = start.right; count = start.count; each = start.each; fit = start.fit; gaps = start.gaps; none = start.quiet }

-- what is seen of its cells
pub start_seen : {b : LogAndRows} (start : Start b) → view_of b.log ≡ view_by start.header start.cells start.lapses
start_seen start = ap view_of start.image ∙ view-image start.header start.cells start.lapses start.right start.count start.each

-- a start's file of a known version is read
pub version-had : (v : ℕ) (b : LogAndRows) (out figs : List ℕ) (start : Start b) → let h = start.header in let n = length b.log in
    is_version v ≡ true → seasons_fit v h ≡ true → NoneBefore v start.lapses → n ≤ length out → figures_of h ≤ length figs
    → read_file (file_bytes_as v h start.cells start.lapses) out figs
    ≡ outcome (Ok n) (log_and_rows (b.log ++ drop n out) (all_figures h (view_of b.log).cell ++ drop (figures_of h) figs))
version-had v b out figs start known seasons none l m =
    let h = start.header in
    let n = length b.log in
    logs.file_had v h start.cells start.lapses known seasons none (start_is start) b.log out figs start.image l m
    ∙ ap (λ (w : View). outcome (Ok n) (log_and_rows (b.log ++ drop n out) (all_figures h w.cell ++ drop (figures_of h) figs))) (sym (start_seen start))

-- the versions by their numbers: 1 to 3 are known, 1 has no seasons, 1 and 2 have no lapses
known_by : (v : ℕ) → 1 ≤ v → v ≤ 3 → is_version v ≡ true
unfolding is_version
known_by v from to = simp (le-leb 1 v from, le-leb v 3 to)

seasons-by : (v : ℕ) (h : Header) → 1 ≤ v → (v ≡ 1 → h.seasons ≡ 0) → seasons_fit v h ≡ true
unfolding seasons_fit
seasons-by v h from none = go (leb 2 v) refl
  where
    go : (b : Bool) → leb 2 v ≡ b → (b || eqb h.seasons 0) ≡ true
    go true e = refl
    go false e = eq-eqb _ _ (none (omega (arith, leb-false 2 v e, from)))

lapses-by : (v : ℕ) (lapses : ℕ → ℕ) → (v < 3 → (i : ℕ) → lapses i ≡ 0) → NoneBefore v lapses
unfolding has_lapses
lapses-by v lapses none e = none (leb-false 3 v e)

-- demand 3's `file_had`: with the room for it, every start's file is read as that start, in each version that can hold it
pub file_had : (v : ℕ) (b : LogAndRows) (out figs : List ℕ) (start : Start b) → let h = start.header in let n = length b.log in
    1 ≤ v → v ≤ 3 → (v ≡ 1 → h.seasons ≡ 0) → (v < 3 → (i : ℕ) → start.lapses i ≡ 0) → n ≤ length out → figures_of h ≤ length figs
    → read_file (file_bytes_as v h start.cells start.lapses) out figs
    ≡ outcome (Ok n) (log_and_rows (b.log ++ drop n out) (all_figures h (view_of b.log).cell ++ drop (figures_of h) figs))
file_had v b out figs start from to seasons none l m =
    version-had v b out figs start (known_by v from to) (seasons-by v start.header from seasons) (lapses-by v start.lapses none) l m

-- the file that is written today is of the last of them
pub today-had : (b : LogAndRows) (out figs : List ℕ) (start : Start b) → let h = start.header in let n = length b.log in
    n ≤ length out → figures_of h ≤ length figs
    → read_file (file_bytes h start.cells start.lapses) out figs
    ≡ outcome (Ok n) (log_and_rows (b.log ++ drop n out) (all_figures h (view_of b.log).cell ++ drop (figures_of h) figs))
today-had b out figs start l m = version-had version b out figs start known-today (seasons-today start.header) (lapses-today start.lapses) l m

-- a start is faithful
pub start-faithful : {b : LogAndRows} (start : Start b) → Faithful start.header (begin b)
start-faithful {b} start = record {
  bytes = subst Bytes (sym start.image) (bytes-image start.lapses start.header start.cells start.fit start.right);
  sound = ap (λ (v : View). v.lent) (start_seen start);
  right = start.figures;
}

module _ (b : LogAndRows) (start : Start b) (calls : List Call) (k : AllBytes calls) where
  book : Book
  book = start_book start.cells start.lapses

  begins : begin b ≡ state_of start.header book b.figures
  unfolding book
  begins =
      ap (λ (s : List ℕ). begin (log_and_rows s b.figures)) start.image
      ∙ sym (start-state start.header start.cells start.lapses b.figures start.count start.each start.fit)

  all : Together start.header book b.figures calls
  unfolding book
  all =
      together start.header book b.figures calls start.right (start-sane start.header start.cells start.lapses start.each) k
      (subst (Faithful start.header) begins (start-faithful start))

  -- demand 3's `log`: after every list the log is byte for byte the one worked out afresh from the history
  pub log : (ran b calls).left.log ≡ log_afresh start calls
  unfolding book
  log = ap (λ (t : State). (run t calls).left.log) begins ∙ ap (λ (t : State). t.log) all.state

  -- demand 3's `answers`: every answer is the plain book's
  pub answers : (ran b calls).result ≡ (booked start calls).result
  unfolding book
  answers = ap (λ (t : State). (run t calls).result) begins ∙ all.answers

  -- demand 3's `ask-left`: the ask that is left open is the plain book's
  pub ask-left : (ran b calls).left.held ≡ (booked start calls).left.held
  unfolding book
  ask-left = ap (λ (t : State). (run t calls).left.held) begins ∙ ap (λ (t : State). t.held) all.state

-- demand 3's `polled`: what the program `poll` leaves is the log of the calls that it reached, worked out afresh
pub polled : (b : LogAndRows) (start : Start b) (c : LogAndRows) (p : Polled b c) → c.log ≡ log_afresh start p.reached.calls
polled b start c p = let r = p.reached in ap (λ (w : State). w.log) (sym r.leads) ∙ log b start r.calls r.bytes
