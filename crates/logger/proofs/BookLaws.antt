-- How the book's replies and the log's cells go together: one more reply changes the cell worked out afresh just as the log's update
-- changes its cell.
use mathlib.Core.Path.{◌≡◌, refl, sym, ap, ap₂, ◌∙◌, subst}
use mathlib.Core.Bool.{Bool, true, false, cond, not, ◌&&◌}
use mathlib.Core.List.{List, [], ◌∷◌, ◌++◌}
use Prim.Native.Nat.{ℕ, zero, suc, ◌+◌, ◌*◌, ◌<◌}
use native.Mathlib.Nat.{add-zero, add-suc, suc-add, not-suc-le-zero}
use native.Mathlib.Omega.{arith}
use borrow.Author.Tests.{eq-eqb, ne_eqb}
use lib.ListN.{length, get_or, set}
use Rattle.byte_numbers.specs.Place.{byte_at, number_at}
use Rattle.byte_numbers.proofs.ByteLaws.{two}
use Rattle.log_cell.specs.Cell.{no_counts, is_cell, IsCell}
use Rattle.log_cell.proofs.CellLaws.{gap-is-cell, empty-is-cell}
use Rattle.log_cell.specs.declared.cell.Cell.{Cell}
use Rattle.log_cell.specs.declared.cell.Cell.TheVariants.{Gap, Empty, Measured}
use Rattle.wire_values.specs.Row as row
use Rattle.wire_values.specs.Row.{row_at}
use Rattle.logger.specs.Take.{update_of}
use Rattle.logger.proofs.TakeLaws.{RowFits}
use Rattle.logger.specs.Reply.{row_of}
use Rattle.wire_values.specs.declared.row.Row.{Row}
use Rattle.logger.specs.Book.{counts_in, is_zero, alike, First, none, counts, first_of, by_first, afresh, kept_answer, kept_with, worked_out}
use Rattle.logger.specs.declared.take.Update.{Update}
use Rattle.logger.specs.declared.take.Update.TheVariants.{Put, Keep, Conflict}

-- ---- the counts of a reply

-- those that the book finds in its bytes are those that the log takes
pub counts-in : (y : List ℕ) → counts_in y ≡ row_of y
unfolding counts_in row_at
counts-in y =
    let count : (i : ℕ) → byte_at y i + 256 * byte_at y (i + 1) ≡ number_at y i 2 = λ i. omega (arith, two y i) in
    cc (count 4, count 6, count 8, count 10)

-- ---- one reply more

-- the cell after an update
unfoldable pub effect : Update → Cell → Cell
effect (Put new) c = new
effect Keep c = c
effect Conflict c = c

-- the number of an update
unfoldable pub update_number : Update → ℕ
update_number (Put new) = 0
update_number Keep = 0
update_number Conflict = 25

-- the first nonzero reply, with one reply more
or_else : First → Row → First
or_else none r = cond (is_zero r) none (counts r)
or_else (counts q) r = counts q

first_of-more : (rows : List Row) (r : Row) → first_of (rows ++ (r ∷ [])) ≡ or_else (first_of rows) r
unfolding first_of or_else
first_of-more [] r = refl
first_of-more (q ∷ rows) r = go (is_zero q) (first_of-more rows r)
  where
    go : (b : Bool) → first_of (rows ++ (r ∷ [])) ≡ or_else (first_of rows) r
        → cond b (first_of (rows ++ (r ∷ []))) (counts q) ≡ or_else (cond b (first_of rows) (counts q)) r
    go true e = e
    go false e = refl

-- by the first nonzero reply: where there is none the row fills the cell, else the cell stays
fills : (b : Bool) (r x : Row) (xs : List Row) (c : Cell)
    → effect (cond b (Put Empty) (Put (Measured r.e_plus r.e_minus r.r_plus r.r_minus))) c ≡ by_first (cond b none (counts r)) (x ∷ xs)
unfolding effect by_first
fills true r x xs c = refl
fills false r x xs c = refl

fills-number : (b : Bool) (r : Row) → update_number (cond b (Put Empty) (Put (Measured r.e_plus r.e_minus r.r_plus r.r_minus))) ≡ 0
unfolding update_number
fills-number true r = refl
fills-number false r = refl

stays : (b s : Bool) (c : Cell) → effect (cond b Keep (cond s Keep Conflict)) c ≡ c
unfolding effect
stays true s c = refl
stays false true c = refl
stays false false c = refl

stays-number : (b s : Bool) → update_number (cond b Keep (cond s Keep Conflict)) ≡ cond (not b && not s) 25 0
unfolding update_number
stays-number true s = refl
stays-number false true = refl
stays-number false false = refl

cell-by : (f : First) (rows : List Row) (r : Row)
    → effect (update_of (by_first f rows) r) (by_first f rows) ≡ by_first (or_else f r) (rows ++ (r ∷ []))
unfolding by_first or_else update_of is_zero row.is_zero
cell-by none [] r = fills (is_zero r) r r [] Gap
cell-by none (q ∷ rows) r = fills (is_zero r) r q (rows ++ (r ∷ [])) Empty
cell-by (counts q) rows r =
    stays (is_zero r) (row.alike q r) (Measured q.e_plus q.e_minus q.r_plus q.r_minus)

number_by : (f : First) (rows : List Row) (r : Row) → update_number (update_of (by_first f rows) r) ≡ kept_answer f r
unfolding by_first update_of is_zero row.is_zero alike row.alike
number_by none [] r = fills-number (is_zero r) r
number_by none (q ∷ rows) r = fills-number (is_zero r) r
number_by (counts q) rows r = stays-number (is_zero r) (alike q r)

-- one reply more: the cell and its number
pub cell-more : (rows : List Row) (r : Row) → effect (update_of (afresh rows) r) (afresh rows) ≡ afresh (rows ++ (r ∷ []))
unfolding afresh
cell-more rows r = cell-by (first_of rows) rows r ∙ sym (ap (λ (f : First). by_first f (rows ++ (r ∷ []))) (first_of-more rows r))

-- for `step-agrees`: the number of a cell's update is the one that the book answers with one reply more
pub number_more : (rows : List Row) (r : Row) → update_number (update_of (afresh rows) r) ≡ kept_answer (first_of rows) r
unfolding afresh
number_more rows r = number_by (first_of rows) rows r

-- ---- the cells worked out

-- as many cells are worked out as are asked for
pub length-worked_out : (kept : ℕ → List Row) (i n : ℕ) → length (worked_out kept i n) ≡ n
unfolding worked_out
length-worked_out kept i zero = refl
length-worked_out kept i (suc n) = ap suc (length-worked_out kept (suc i) n)

-- the j-th of them is worked out from the replies that are kept for its interval
pub worked_out-at : (kept : ℕ → List Row) (i n j : ℕ) → j < n → get_or (worked_out kept i n) j Gap ≡ afresh (kept (i + j))
unfolding worked_out
worked_out-at kept i zero j l = absurd (not-suc-le-zero l)
worked_out-at kept i (suc n) zero l = ap (λ (k : ℕ). afresh (kept k)) (sym (add-zero i))
worked_out-at kept i (suc n) (suc j) l =
    worked_out-at kept (suc i) n j (omega arith) ∙ ap (λ (k : ℕ). afresh (kept k)) (suc-add i j ∙ sym (add-suc i j))

-- a reply for an earlier interval does not show
worked_out-later : (kept : ℕ → List Row) (p : ℕ) (r : Row) (i n : ℕ) → p < i → worked_out (kept_with kept p r) i n ≡ worked_out kept i n
unfolding worked_out kept_with
worked_out-later kept p r i zero l = refl
worked_out-later kept p r i (suc n) l =
    ap₂ (λ (c : Cell) (cs : List Cell). c ∷ cs)
    (ap (λ (b : Bool). afresh (cond b (kept i ++ (r ∷ [])) (kept i))) (ne_eqb i p (λ e. omega arith)))
    (worked_out-later kept p r (suc i) n (omega arith))

-- one reply more changes the cell of its interval
pub worked_out-with : (kept : ℕ → List Row) (r : Row) (i n j : ℕ) → j < n
    → worked_out (kept_with kept (i + j) r) i n ≡ set (worked_out kept i n) j (afresh (kept (i + j) ++ (r ∷ [])))
unfolding worked_out kept_with
worked_out-with kept r i zero j l = absurd (not-suc-le-zero l)
worked_out-with kept r i (suc n) zero l =
    subst (λ (p : ℕ). worked_out (kept_with kept p r) i (suc n) ≡ set (worked_out kept i (suc n)) zero (afresh (kept p ++ (r ∷ [])))) (sym (add-zero i))
    (ap₂ (λ (c : Cell) (cs : List Cell). c ∷ cs)
    (ap (λ (b : Bool). afresh (cond b (kept i ++ (r ∷ [])) (kept i))) (eq-eqb i i refl))
    (worked_out-later kept i r (suc i) n (omega arith)))
worked_out-with kept r i (suc n) (suc j) l =
    let e : i + suc j ≡ suc i + j = add-suc i j ∙ sym (suc-add i j) in
    ap₂ (λ (c : Cell) (cs : List Cell). c ∷ cs)
    (ap (λ (b : Bool). afresh (cond b (kept i ++ (r ∷ [])) (kept i))) (ne_eqb i (i + suc j) (λ q. omega arith)))
    (ap (λ (p : ℕ). worked_out (kept_with kept p r) (suc i) n) e
    ∙ worked_out-with kept r (suc i) n j (omega arith)
    ∙ ap (λ (p : ℕ). set (worked_out kept (suc i) n) j (afresh (kept p ++ (r ∷ [])))) (sym e))

-- ---- rows whose counts fit two bytes give cells

-- every row of a list has counts that fit two bytes
abbrev pub Fitting : List Row → Type 0
Fitting [] = Unit
Fitting (r ∷ rows) = RowFits r × Fitting rows

-- a reply more whose counts fit leaves the kept ones fitting
pub fitting-more : (rows : List Row) (r : Row) → Fitting rows → RowFits r → Fitting (rows ++ (r ∷ []))
fitting-more [] r f k = (k, tt)
fitting-more (q ∷ rows) r f k = (f.0, fitting-more rows r f.1 k)

-- the first nonzero reply is nonzero, and fits
record IsFirst (r : Row) : Type 0 where
  fits : RowFits r
  nonzero : is_zero r ≡ false

FirstFits : First → Type 0
FirstFits none = Unit
FirstFits (counts r) = IsFirst r

first_fits : (rows : List Row) → Fitting rows → FirstFits (first_of rows)
unfolding first_of FirstFits
first_fits [] f = tt
first_fits (r ∷ rows) f = go (is_zero r) refl (first_fits rows f.1)
  where
    go : (b : Bool) → is_zero r ≡ b → FirstFits (first_of rows) → FirstFits (cond b (first_of rows) (counts r))
    go true e rest = rest
    go false e rest = record { fits = f.0; nonzero = e }

by_first_lem : (f : First) (rows : List Row) → FirstFits f → IsCell (by_first f rows)
unfolding by_first FirstFits is_zero no_counts is_cell
by_first_lem none [] k = gap-is-cell
by_first_lem none (r ∷ rows) k = empty-is-cell
by_first_lem (counts r) rows k = record { right = ap not k.nonzero; fits = k.fits }

-- what is worked out from rows that fit is a cell that a log can hold
pub afresh-is-cell : (rows : List Row) → Fitting rows → IsCell (afresh rows)
unfolding afresh
afresh-is-cell rows f = by_first_lem (first_of rows) rows (first_fits rows f)
