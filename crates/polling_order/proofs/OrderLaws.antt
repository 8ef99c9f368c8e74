-- A cell worked out afresh depends on which replies there are and not on their order, where no two of them are nonzero and different; how often an ask for an
-- interval lapsed does not depend on the order at all.
use mathlib.Core.Path.{◌≡◌, refl, sym, ap, subst, ◌∙◌}
use mathlib.Core.Bool.{Bool, true, false, cond, false≢true}
use mathlib.Core.List.Memᴰ
use mathlib.Core.List.{List, [], ◌∷◌, ◌++◌, append_assoc, append-nil, reverse, reverse-cons, map, map-append, Memᴰ}
use mathlib.Core.Logic.{⊎_elim}
use Prim.Native.Nat.{ℕ, ◌+◌}
use native.Mathlib.Omega.{arith}
use lib.Dec.{eqb}
use Rattle.log_cell.specs.declared.cell.Cell.TheVariants.{Measured}
use Rattle.logger.specs.Book.{is_zero, First, none, counts, first_of, by_first, afresh}
use Rattle.wire_values.specs.declared.row.Row.{Row}
use Rattle.polling_order.specs.Completed.{Ending, counted, refused, lapsed, Completed, rows_with, rows_at}
use Rattle.polling_order.specs.Order.{Reordered, OneReply}

-- every reply of the one list is in the other
abbrev pub Within : List Row → List Row → Type 0
Within xs ys = (r : Row) → Memᴰ r xs → Memᴰ r ys

-- ---- the first nonzero reply

-- it is one of them; where there is none, all are zeros
abbrev FoundIn : First → List Row → Type 0
FoundIn none rows = (r : Row) → Memᴰ r rows → is_zero r ≡ true
FoundIn (counts q) rows = Memᴰ q rows × (is_zero q ≡ false)

found-behind : (f : First) (x : Row) (rows : List Row) → is_zero x ≡ true → FoundIn f rows → FoundIn f (x ∷ rows)
found-behind none x rows z k = λ r m. ⊎_elim (λ (e : r ≡ x). ap is_zero e ∙ z) (λ (n : Memᴰ r rows). k r n) (Memᴰ.cases_cons m)
found-behind (counts q) x rows z k = (Memᴰ.tail k.0, k.1)

found : (rows : List Row) → FoundIn (first_of rows) rows
unfolding first_of
found [] = λ r m. absurd (Memᴰ.not-nil m)
found (x ∷ rows) = go (is_zero x) refl (found rows)
  where
    go : (b : Bool) → is_zero x ≡ b → FoundIn (first_of rows) rows → FoundIn (cond b (first_of rows) (counts x)) (x ∷ rows)
    go true e k = found-behind (first_of rows) x rows e k
    go false e k = (Memᴰ.head refl, e)

-- ---- the cell

no-first : (xs ys : List Row) → Within xs ys → Within ys xs → by_first none xs ≡ by_first none ys
unfolding by_first
no-first [] [] k l = refl
no-first [] (y ∷ ys) k l = absurd (Memᴰ.not-nil (l y (Memᴰ.head refl)))
no-first (x ∷ xs) [] k l = absurd (Memᴰ.not-nil (k x (Memᴰ.head refl)))
no-first (x ∷ xs) (y ∷ ys) k l = refl

same_by : (f g : First) (xs ys : List Row) → OneReply xs → Within xs ys → Within ys xs → FoundIn f xs → FoundIn g ys → by_first f xs ≡ by_first g ys
unfolding by_first
same_by none none xs ys one k l p q = no-first xs ys k l
same_by none (counts r) xs ys one k l p q = absurd (false≢true (sym q.1 ∙ p r (l r q.0)))
same_by (counts r) none xs ys one k l p q = absurd (false≢true (sym p.1 ∙ q r (k r p.0)))
same_by (counts r) (counts t) xs ys one k l p q =
    ap (λ (v : Row). Measured v.e_plus v.e_minus v.r_plus v.r_minus) (one r t p.0 (l t q.0) p.1 q.1)

-- the cell of an interval goes by which replies it has
pub afresh-members : (xs ys : List Row) → OneReply xs → Within xs ys → Within ys xs → afresh xs ≡ afresh ys
unfolding afresh
afresh-members xs ys one k l = same_by (first_of xs) (first_of ys) xs ys one k l (found xs) (found ys)

-- ---- the rows of completed asks

-- those that one of them gives interval i
abbrev pub rows_of : ℕ → Completed → List Row
rows_of i d = cond (eqb i d.place) (rows_with d.ending) []

-- the replies of two histories, one behind the other
pub rows_append : (i : ℕ) (ds es : List Completed) → rows_at i (ds ++ es) ≡ rows_at i ds ++ rows_at i es
unfolding rows_at
rows_append i [] es = refl
rows_append i (d ∷ ds) es = ap (λ (l : List Row). rows_of i d ++ l) (rows_append i ds es) ∙ sym (append_assoc (rows_of i d) (rows_at i ds) (rows_at i es))

-- what stands in front of one list may stand in the middle of another, and the other way round
forward : (us vs ws zs : List Row) → Within ws (vs ++ zs) → Within (us ++ ws) (vs ++ (us ++ zs))
forward us vs ws zs k r m =
    ⊎_elim (λ (n : Memᴰ r us). Memᴰ.append_right vs (Memᴰ.append_left zs n))
    (λ (n : Memᴰ r ws).
    ⊎_elim (λ (o : Memᴰ r vs). Memᴰ.append_left (us ++ zs) o) (λ (o : Memᴰ r zs). Memᴰ.append_right vs (Memᴰ.append_right us o))
    (Memᴰ.append_cases vs (k r n)))
    (Memᴰ.append_cases us m)

backward : (us vs ws zs : List Row) → Within (vs ++ zs) ws → Within (vs ++ (us ++ zs)) (us ++ ws)
backward us vs ws zs k r m =
    ⊎_elim (λ (n : Memᴰ r vs). Memᴰ.append_right us (k r (Memᴰ.append_left zs n)))
    (λ (n : Memᴰ r (us ++ zs)).
    ⊎_elim (λ (o : Memᴰ r us). Memᴰ.append_left ws o) (λ (o : Memᴰ r zs). Memᴰ.append_right us (k r (Memᴰ.append_right vs o)))
    (Memᴰ.append_cases us n))
    (Memᴰ.append_cases vs m)

-- where a list's first is taken out
taken_out : (i : ℕ) (d : Completed) (before behind others : List Completed) → others ≡ before ++ (d ∷ behind)
    → rows_at i others ≡ rows_at i before ++ (rows_of i d ++ rows_at i behind)
unfolding rows_at
taken_out i d before behind others e = ap (rows_at i) e ∙ rows_append i before (d ∷ behind)

-- in another order an interval has no reply that it had not
pub rows_on : (i : ℕ) (ds es : List Completed) → Reordered ds es → Within (rows_at i ds) (rows_at i es)
unfolding rows_at
rows_on i [] es p = λ r m. absurd (Memᴰ.not-nil m)
rows_on i (d ∷ ds) es p =
    let rest = subst (Within (rows_at i ds)) (rows_append i p.0 p.1) (rows_on i ds (p.0 ++ p.1) p.3) in
    subst (Within (rows_of i d ++ rows_at i ds)) (sym (taken_out i d p.0 p.1 es p.2)) (forward (rows_of i d) (rows_at i p.0) (rows_at i ds) (rows_at i p.1) rest)

-- and loses none
pub rows_back : (i : ℕ) (ds es : List Completed) → Reordered ds es → Within (rows_at i es) (rows_at i ds)
unfolding rows_at
rows_back i [] es p = λ r m. absurd (Memᴰ.not-nil (subst (λ (l : List Completed). Memᴰ r (rows_at i l)) p m))
rows_back i (d ∷ ds) es p =
    let rest = subst (λ (l : List Row). Within l (rows_at i ds)) (rows_append i p.0 p.1) (rows_back i ds (p.0 ++ p.1) p.3) in
    subst (λ (l : List Row). Within l (rows_of i d ++ rows_at i ds)) (sym (taken_out i d p.0 p.1 es p.2)) (backward (rows_of i d) (rows_at i p.0) (rows_at i ds) (rows_at i p.1) rest)

-- the cell of an interval whose replies do not contradict each other is the same in another order
pub same_cell : (came : List Row) (i : ℕ) (ds es : List Completed) → Reordered ds es → OneReply (came ++ rows_at i ds)
    → afresh (came ++ rows_at i ds) ≡ afresh (came ++ rows_at i es)
same_cell came i ds es p one =
    afresh-members (came ++ rows_at i ds) (came ++ rows_at i es) one
    (forward came [] (rows_at i ds) (rows_at i es) (rows_on i ds es p)) (forward came [] (rows_at i es) (rows_at i ds) (rows_back i ds es p))

-- ---- the lapses of completed asks

-- what an ending counts for in a cell's lapses
abbrev pub lapse_of : Ending → ℕ
lapse_of (counted r) = 0
lapse_of (refused result) = 0
lapse_of lapsed = 1

-- those that one of them gives interval i
abbrev pub lapses_of : ℕ → Completed → ℕ
lapses_of i d = cond (eqb i d.place) (lapse_of d.ending) 0

-- how many lapses an interval has in a list
unfoldable pub lapses_in : ℕ → List Completed → ℕ
lapses_in i [] = 0
lapses_in i (d ∷ ds) = lapses_of i d + lapses_in i ds

-- the lapses of two histories add up
pub lapses-append : (i : ℕ) (ds es : List Completed) → lapses_in i (ds ++ es) ≡ lapses_in i ds + lapses_in i es
unfolding lapses_in
lapses-append i [] es = omega arith
lapses-append i (d ∷ ds) es = let rest = lapses-append i ds es in omega (arith, rest)

-- in another order they are as many
pub same-lapses : (i : ℕ) (ds es : List Completed) → Reordered ds es → lapses_in i ds ≡ lapses_in i es
unfolding lapses_in
same-lapses i [] es p = sym (ap (lapses_in i) p)
same-lapses i (d ∷ ds) es p =
    let rest = same-lapses i ds (p.0 ++ p.1) p.3 in
    let apart = lapses-append i p.0 p.1 in
    let there = ap (lapses_in i) p.2 ∙ lapses-append i p.0 (d ∷ p.1) in
    omega (arith, rest, apart, there)

-- ---- newest first

-- a list from its end is the list in another order
pub turned : {A B : Type 0} (f : A → B) (xs : List A) → Reordered (map f xs) (map f (reverse xs))
turned f [] = refl
turned {A} {B} f (x ∷ xs) = (
  map f (reverse xs),
  [],
  ap (map f) (reverse-cons x xs) ∙ map-append f (reverse xs) (x ∷ []),
  subst (Reordered (map f xs)) (sym (append-nil (map f (reverse xs)))) (turned f xs),
)

-- what stands in it from its end stands in it
pub in-turned : {A : Type 0} (x : A) (xs : List A) → Memᴰ x (reverse xs) → Memᴰ x xs
in-turned x [] m = m
in-turned {A} x (y ∷ ys) m =
    ⊎_elim (λ (n : Memᴰ x (reverse ys)). Memᴰ.tail (in-turned x ys n))
    (λ (n : Memᴰ x (y ∷ [])). ⊎_elim (λ (e : x ≡ y). Memᴰ.head e) (λ (o : Memᴰ x []). absurd (Memᴰ.not-nil o)) (Memᴰ.cases_cons n))
    (Memᴰ.append_cases (reverse ys) (subst (Memᴰ x) (reverse-cons y ys) m))
