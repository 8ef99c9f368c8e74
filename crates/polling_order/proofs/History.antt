-- Two histories by their completed asks: demand 3 says what stands in each log and among its figures, and by the laws of the order that is the same.
use mathlib.Core.Path.{◌≡◌, refl, sym, ap, ap₂, subst, fun_ext, ◌∙◌}
use mathlib.Core.Bool.{Bool, true, false, cond}
use mathlib.Core.List.{List, [], ◌∷◌}
use mathlib.Core.Logic.{◌⊎◌, inl, inr}
use Prim.Native.Nat.{ℕ, ◌+◌, ◌*◌, ◌/◌, ◌%◌, ◌≤◌, ◌<◌}
use native.Mathlib.Nat.{zero-add}
use native.Mathlib.Omega.{arith}
use lib.Dec.{ltb}
use lib.ListN.{length, get_or}
use lib.Seq.{ext_get_or}
use borrow.Author.Tests.{ltb-true, ltb-false}
use Rattle.std.specs.Prelude.{None, Some}
use Rattle.byte_numbers.specs.Place.{byte_at}
use Rattle.log_header.specs.Header.{cells_of}
use Rattle.energy_log.specs.Image.{OutsideCell, image_of, AllCells}
use Rattle.energy_log.specs.Pair.{pair_of}
use Rattle.energy_log.specs.View.{View, view_of}
use Rattle.log_header.proofs.IntervalLaws.{in-log}
use Rattle.energy_log.proofs.ViewLaws.{Whole, cell_in_lem, none_in, view_by, view-image}
use Rattle.log_cell.specs.declared.cell.Cell.{Cell}
use Rattle.log_cell.specs.declared.cell.Cell.TheVariants.{Gap}
use Rattle.log_header.specs.declared.header.Header.{Header}
use Rattle.day_rows.specs.LogAndRows.{LogAndRows, log_and_rows}
use Rattle.day_rows.specs.Figures.{row_numbers}
use Rattle.day_rows.specs.Rows.{row_at}
use Rattle.day_rows.proofs.RowsLaws.{figure-at, same-walk, day-in-log}
use Rattle.logger.specs.Book.{Call, Book, afresh, came_first, start_book, book_step, run_of, book_run, worked_out, cut_at255, lapses_out, AllBytes}
use Rattle.logger.specs.Run.{State, step, run}
use Rattle.logger.proofs.BookLaws.{length-worked_out, worked_out-at, afresh-is-cell}
use Rattle.logger.proofs.StepLaws.{Sane, step-sane}
use Rattle.logger.proofs.FigureLaws.{Faithful, step-faithful}
use Rattle.claims.specs.Demand3.{Start, begin, ran, booked}
use Rattle.claims.proofs.Claims as claims
use Rattle.claims.proofs.History.{start-sane, start-faithful}
use Rattle.polling_order.specs.Completed.{Completed, asks_in, replies_at}
use Rattle.polling_order.specs.Order.{Reordered, OneReply, OneReplyEach}
use Rattle.polling_order.specs.Rounds.{Round, calls_of, AllComplete, asks_of}
use Rattle.polling_order.specs.PollingOrder.{after, OfDay, SameElsewhere}
use Rattle.polling_order.proofs.OrderLaws.{same_cell, lapses_in, same-lapses}
use Rattle.polling_order.proofs.BitLaws.{same_bits}
use Rattle.polling_order.proofs.CompletedLaws.{run-adds}
use Rattle.polling_order.proofs.RoundLaws.{completes-all, calls-bytes}

-- ---- what is seen of a log after a list of calls

run-sane : (h : Header) (b : Book) (calls : List Call) → Sane h b → AllBytes calls → Sane h (book_run h b calls).left
unfolding run_of
run-sane h b [] s k = s
run-sane h b (c ∷ calls) s k = run-sane h (book_step h b c).left calls (step-sane h b c s k.0) k.1

module _ {b : LogAndRows} (start : Start b) (calls : List Call) (k : AllBytes calls) where
  -- the header of the log that a history starts from
  abbrev pub h : Header
  h = start.header

  -- the book behind the history
  abbrev pub told : Book
  told = (booked start calls).left

  -- the cells that the book makes
  abbrev pub cells : List Cell
  cells = worked_out told.kept 0 (cells_of h)

  cell_at : (i : ℕ) → i < cells_of h → get_or cells i Gap ≡ afresh (told.kept i)
  cell_at i l = worked_out-at told.kept 0 (cells_of h) i l ∙ ap (λ (j : ℕ). afresh (told.kept j)) (zero-add i)

  all-cells : AllCells cells
  all-cells i l =
      let sane = run-sane h (start_book start.cells start.lapses) calls (start-sane h start.cells start.lapses start.each) k in
      rw (cell_at i (rw length-worked_out at l)) (afresh-is-cell (told.kept i) (sane.rows i))

  seen : view_of (ran b calls).left.log ≡ view_by h cells (lapses_out told.lapses)
  seen =
      ap view_of ((claims.demand-3).log b start calls k)
      ∙ view-image h cells (lapses_out told.lapses) start.right (length-worked_out told.kept 0 (cells_of h)) all-cells

  -- a cell after a history is the book's: where two histories are compared cell by cell
  pub seen-cell : (i : ℕ) → i < cells_of h → (view_of (ran b calls).left.log).cell i ≡ Some (afresh (told.kept i))
  seen-cell i l = ap (λ (v : View). v.cell i) seen ∙ cell_in_lem cells i (rw length-worked_out l) ∙ ap Some (cell_at i l)

  -- the replies of an interval are those of the start's cell and of the completed asks
  pub kept-are : (i : ℕ) → told.kept i ≡ replies_at start (asks_in start calls) i
  unfolding start_book
  kept-are i = (run-adds h (start_book start.cells start.lapses) calls).kept i

  lapses-are : (i : ℕ) → told.lapses i ≡ start.lapses i + lapses_in i (asks_in start calls)
  unfolding start_book
  lapses-are i = (run-adds h (start_book start.cells start.lapses) calls).lapses i

-- what is cut at 255 fits a byte
cut_fits : (n : ℕ) → cut_at255 n < 256
unfolding cut_at255
cut_fits n = go (ltb n 255) refl
  where
    go : (b : Bool) → ltb n 255 ≡ b → cond b n 255 < 256
    go true p = omega (arith, ltb-true n 255 p)
    go false p = omega arith

-- ---- along the calls

-- a call leaves as many bytes and as many figures
run_long : (s : State) (calls : List Call) → length (run s calls).left.log ≡ length s.log
unfolding run_of
run_long s [] = refl
run_long s (c ∷ calls) = run_long (step s c).left calls ∙ (claims.demand-3).as_long s c

run-many : (s : State) (calls : List Call) → length (run s calls).left.figures ≡ length s.figures
unfolding run_of
run-many s [] = refl
run-many s (c ∷ calls) = run-many (step s c).left calls ∙ (claims.day-figures).as_many s c

-- figures behind those of the log's days stay as they were lent
run-behind : (h : Header) (s : State) (calls : List Call) (d : ℕ) → h.days ≤ d → Faithful h s → AllBytes calls
    → row_at (run s calls).left.figures d ≡ row_at s.figures d
unfolding run_of
run-behind h s [] d l f k = refl
run-behind h s (c ∷ calls) d l f k =
    run-behind h (step s c).left calls d l (step-faithful h s c k.0 f) k.1
    ∙ (claims.day-figures).other_days s c d (λ g i e o same.
    let q : Some g ≡ Some h = sym e ∙ f.sound in
    let one : g ≡ h = cc in
    let in-days = (in-log g o.day o.slot i o.interval).day-below in
    let days : g.days ≡ h.days = ap (λ (x : Header). x.days) one in
    omega (arith, in-days, days, l, same))

-- ---- two histories

module _ (b : LogAndRows) (start : Start b) (these those : List Call) (k : AllBytes these) (l : AllBytes those)
    (p : Reordered (asks_in start these) (asks_in start those)) where
  abbrev head : Header
  head = start.header

  abbrev one : LogAndRows
  one = after b these

  abbrev two : LogAndRows
  two = after b those

  abbrev Free : ℕ → Type 0
  Free i = OneReply (replies_at start (asks_in start these) i)

  same-afresh : (i : ℕ) → Free i → afresh ((booked start these).left.kept i) ≡ afresh ((booked start those).left.kept i)
  same-afresh i free =
      ap afresh (kept-are start these k i)
      ∙ same_cell (came_first (get_or start.cells i Gap)) i (asks_in start these) (asks_in start those) p free
      ∙ sym (ap afresh (kept-are start those l i))

  same-counts : (i : ℕ) → (booked start these).left.lapses i ≡ (booked start those).left.lapses i
  same-counts i =
      lapses-are start these k i
      ∙ ap (λ (n : ℕ). start.lapses i + n) (same-lapses i (asks_in start these) (asks_in start those) p)
      ∙ sym (lapses-are start those l i)

  same_seen : (i : ℕ) → Free i → (view_of one.log).cell i ≡ (view_of two.log).cell i
  same_seen i free = go (ltb i (cells_of head)) refl
    where
      past : (calls : List Call) → AllBytes calls → cells_of head ≤ i → (view_of (ran b calls).left.log).cell i ≡ None
      past calls m n =
          ap (λ (v : View). v.cell i) (seen start calls m) ∙ none_in (cells start calls m) i (rw (length-worked_out (booked start calls).left.kept 0 (cells_of head)) n)

      go : (t : Bool) → ltb i (cells_of head) ≡ t → (view_of one.log).cell i ≡ (view_of two.log).cell i
      go true e =
          let m = ltb-true i (cells_of head) e in
          seen-cell start these k i m ∙ ap Some (same-afresh i free) ∙ sym (seen-cell start those l i m)
      go false e = let m = ltb-false i (cells_of head) e in past these k m ∙ sym (past those l m)

  same-lapsed : (i : ℕ) → (view_of one.log).lapses i ≡ (view_of two.log).lapses i
  same-lapsed i =
      ap (λ (v : View). v.lapses i) (seen start these k)
      ∙ ap₂ (λ (n m : ℕ). cond (ltb i n) (cut_at255 m) 0)
      (length-worked_out (booked start these).left.kept 0 (cells_of head) ∙ sym (length-worked_out (booked start those).left.kept 0 (cells_of head)))
      (same-counts i)
      ∙ sym (ap (λ (v : View). v.lapses i) (seen start those l))

  same_row : (d : ℕ) → ((i : ℕ) → i < cells_of head → OfDay head d i → Free i) → row_at one.figures d ≡ row_at two.figures d
  same_row d free = go (ltb d head.days) refl
    where
      go : (t : Bool) → ltb d head.days ≡ t → row_at one.figures d ≡ row_at two.figures d
      go true e =
          let m = ltb-true d head.days e in
          ((claims.day-figures).kept b start these k).rows d m
          ∙ same-walk head d (view_of one.log).cell (view_of two.log).cell
          (λ j from before_end. same_seen j (free j (day-in-log head d j m before_end) (record { from = from; before_end = before_end })))
          ∙ sym (((claims.day-figures).kept b start those l).rows d m)
      go false e =
          let m = ltb-false d head.days e in
          run-behind head (begin b) these d m (start-faithful start) k ∙ sym (run-behind head (begin b) those d m (start-faithful start) l)

  made : (calls : List Call) (m : AllBytes calls) → Whole head (cells start calls m) (lapses_out (booked start calls).left.lapses)
  made calls m =
      let book = (booked start calls).left in
      record {
        right = start.right;
        count = length-worked_out book.kept 0 (cells_of head);
        each = all-cells start calls m;
        fit = λ i. cut_fits (book.lapses i);
      }

  alike-lapses : lapses_out (booked start those).left.lapses ≡ lapses_out (booked start these).left.lapses
  alike-lapses = fun_ext (λ i. ap cut_at255 (sym (same-counts i)))

  same-pair : (q j : ℕ) → j < 4 → ((i : ℕ) → i < cells_of head → Free i ⊎ OutsideCell (cells_of head) i q j)
      → pair_of (byte_at one.log q) j ≡ pair_of (byte_at two.log q) j
  same-pair q j less apart =
      ap (λ (s : List ℕ). pair_of (byte_at s q) j) ((claims.demand-3).log b start these k)
      ∙ same_bits head (cells start these k) (cells start those l) (lapses_out (booked start these).left.lapses) (made these k)
      (subst (Whole head (cells start those l)) alike-lapses (made those l)) q j less (λ i m. go i m (apart i m))
      ∙ ap (λ (ls : ℕ → ℕ). pair_of (byte_at (image_of head (cells start those l) ls) q) j) (sym alike-lapses)
      ∙ sym (ap (λ (s : List ℕ). pair_of (byte_at s q) j) ((claims.demand-3).log b start those l))
    where
      go : (i : ℕ) → i < cells_of head → Free i ⊎ OutsideCell (cells_of head) i q j
          → (get_or (cells start these k) i Gap ≡ get_or (cells start those l) i Gap) ⊎ OutsideCell (cells_of head) i q j
      go i m (inl free) = inl (cell_at start these k i m ∙ same-afresh i free ∙ sym (cell_at start those l i m))
      go i m (inr out) = inr out

  -- the claim `elsewhere`
  pub elsewhere : SameElsewhere start (asks_in start these) one two
  elsewhere = record {
    header = (ap (λ (v : View). v.lent) (seen start these k), ap (λ (v : View). v.lent) (seen start those l));
    size = run_long (begin b) these ∙ sym (run_long (begin b) those);
    lapses = same-lapsed;
    cells = same_seen;
    figures = same_row;
    bits = same-pair;
  }

  -- a figure is that of its day's row
  by_row : (figs : List ℕ) (j : ℕ) → get_or figs j 0 ≡ get_or (row_at figs (j / row_numbers)) (j % row_numbers) 0
  by_row figs j =
      let less : j % row_numbers < row_numbers = omega arith in
      let place : j ≡ row_numbers * (j / row_numbers) + j % row_numbers = omega arith in
      ap (λ (n : ℕ). get_or figs n 0) place ∙ sym (figure-at figs (j / row_numbers) (j % row_numbers) less)

  -- the claim `equal`
  pub equal : OneReplyEach start (asks_in start these) → one ≡ two
  equal free =
      ap₂ log_and_rows
      ((claims.demand-3).log b start these k
      ∙ ap₂ (λ (cs : List Cell) (ls : ℕ → ℕ). image_of head cs ls) worked (fun_ext (λ i. ap cut_at255 (same-counts i)))
      ∙ sym ((claims.demand-3).log b start those l))
      (ext_get_or 0 one.figures two.figures (run-many (begin b) these ∙ sym (run-many (begin b) those)) (λ j m.
      by_row one.figures j
      ∙ ap (λ (row : List ℕ). get_or row (j % row_numbers) 0) (same_row (j / row_numbers) (λ i n o. free i n))
      ∙ sym (by_row two.figures j)))
    where
      worked : cells start these k ≡ cells start those l
      worked =
          let size = length-worked_out (booked start these).left.kept 0 (cells_of head) in
          ext_get_or Gap (cells start these k) (cells start those l) (size ∙ sym (length-worked_out (booked start those).left.kept 0 (cells_of head)))
          (λ i m.
          let n : i < cells_of head = rw size at m in
          cell_at start these k i n ∙ same-afresh i (free i n) ∙ sym (cell_at start those l i n))

-- ---- lists of completed asks

-- a list's completed asks are those of its calls
pub asks-are : (b : LogAndRows) (start : Start b) (rs : List Round) → AllComplete start.header rs → asks_in start (calls_of rs) ≡ asks_of start.header rs
unfolding start_book
asks-are b start rs m = completes-all start.header rs m _ _

module _ (b : LogAndRows) (start : Start b) (these those : List Round) (c : AllComplete start.header these) (d : AllComplete start.header those)
    (p : Reordered (asks_of start.header these) (asks_of start.header those)) where
  reordered : Reordered (asks_in start (calls_of these)) (asks_in start (calls_of those))
  reordered = rw (asks-are b start these c, asks-are b start those d) p

  -- the claim `list_elsewhere`, by the same of the histories that the lists are
  pub list_elsewhere : SameElsewhere start (asks_of start.header these) (after b (calls_of these)) (after b (calls_of those))
  list_elsewhere =
      subst (λ (ds : List Completed). SameElsewhere start ds (after b (calls_of these)) (after b (calls_of those))) (asks-are b start these c)
      (elsewhere b start (calls_of these) (calls_of those) (calls-bytes start.header these c) (calls-bytes start.header those d) reordered)

  -- the claim `list_equal`, likewise
  pub list_equal : OneReplyEach start (asks_of start.header these) → (after b (calls_of these) ≡ after b (calls_of those))
  list_equal free =
      equal b start (calls_of these) (calls_of those) (calls-bytes start.header these c) (calls-bytes start.header those d) reordered
      (subst (OneReplyEach start) (sym (asks-are b start these c)) free)
