-- What follows from the definitions of specs/Lock.antt: what was put is read back. No contract cites it.
use Rattle.std.specs.Prelude.{None, Some}
use Rattle.std.specs.List.{position_or_len}
use Rattle.std.proofs.Common.{cond, not}
use lib.Dec.{eqb}
use Prim.Native.Nat.{ℕ, zero, suc, ◌+◌, ◌-◌, ◌^◌, ◌≤◌, ◌<◌}
use mathlib.Core.Bool.{Bool, true, false, ◌&&◌, false≢true}
use mathlib.Core.Path.{◌≡◌, refl, sym, ap, ◌∙◌}
use mathlib.Core.List.{List, [], ◌∷◌, ◌++◌, append-nil}
use native.Mathlib.Nat.{add-zero}
use native.Mathlib.Omega.{arith}
use borrow.Author.Tests.{ne_eqb, le-leb, leb-true, ltb-false}
use lib.Dec.{leb, ltb}
use lib.ListN.{length, take, drop, length-append, length-drop, drop_of_length-le}
use lib.Seq.{take_all, take_at, take-length}
use Rattle.byte_numbers.specs.Place.{written}
use Rattle.byte_numbers.proofs.PlaceLaws.{onward}
use Rattle.text.specs.Decimal.{decimal, is_digit, are_digits}
use Rattle.text.specs.Reading.{number_of_text}
use Rattle.text.specs.Search.{index_of}
use Rattle.text.proofs.DecimalLaws.{are_digits-decimal, decimal-least, decimal-most-u32}
use Rattle.text.proofs.ReadingLaws.{read-decimal}
use Rattle.paths_and_locks.specs.Lock.{pad_of, holder_text, after_spaces, up_to, process_of, holder_in, holder_of}

abbrev spaces : ℕ → List ℕ
spaces zero = []
spaces (suc n) = 32 ∷ spaces n

-- ---- a lock's text, put piece by piece

-- for `put_holder`: of ten spaces those that the digits do not take are the padding
pub is-pad : (p k : ℕ) (xs : List ℕ) → k ≡ length (decimal p) → xs ≡ drop k (spaces 10) → xs ≡ pad_of p
unfolding pad_of
is-pad p k xs e q = q ∙ ap (λ (j : ℕ). drop j (spaces 10)) e

-- the padding is what a number lacks of ten digits
pub pad-length : (p : ℕ) → length (pad_of p) ≡ 10 - length (decimal p)
unfolding pad_of
pad-length p = length-drop (length (decimal p)) (spaces 10)

-- the padding, the number and the line feed by three stores are the text by one
pub put : (s t u v : List ℕ) (p k : ℕ) (pad : List ℕ) → k ≡ length (decimal p) → pad ≡ pad_of p
    → t ≡ written s 0 pad → u ≡ written t (length pad) (decimal p) → v ≡ written u (length pad + k) (10 ∷ []) → v ≡ written s 0 (holder_text p)
unfolding holder_text
put s t u v p k pad e q a b c =
    onward s t v 0 (length pad) pad (decimal p ++ (10 ∷ [])) a (onward t u v (length pad) (length pad + k) (decimal p) (10 ∷ []) b c (omega (arith, e))) (omega arith)
    ∙ ap (λ (l : List ℕ). written s 0 (l ++ (decimal p ++ (10 ∷ [])))) q

-- ---- laws for the walks

-- the place of the first byte that is no space
abbrev pub first_other : List ℕ → ℕ
first_other s = position_or_len (λ b. not (eqb b 32)) s

step : (b : ℕ) (s : List ℕ) → first_other (b ∷ s) ≡ cond (eqb b 32) (suc (first_other s)) 0
step b s = go (eqb b 32)
  where
    go : (x : Bool) → cond (not (not x)) (1 + first_other s) 0 ≡ cond x (suc (first_other s)) 0
    go true = omega arith
    go false = refl

-- is where what follows the spaces begins
passed_spaces : (s : List ℕ) → drop (first_other s) s ≡ after_spaces s
unfolding after_spaces
passed_spaces [] = refl
passed_spaces (b ∷ s) = ap (λ (k : ℕ). drop k (b ∷ s)) (step b s) ∙ go (eqb b 32) (passed_spaces s)
  where
    go : (x : Bool) → drop (first_other s) s ≡ after_spaces s → drop (cond x (suc (first_other s)) 0) (b ∷ s) ≡ cond x (after_spaces s) (b ∷ s)
    go true e = e
    go false e = refl

-- which is told by a search
pub from_first : (s : List ℕ) (n : ℕ) → cond (ltb (first_other s) (length s)) (Some (first_other s)) None ≡ Some n → take (length s - n) (drop n s) ≡ after_spaces s
from_first s n e = go (ltb (first_other s) (length s)) e
  where
    go : (x : Bool) → cond x (Some (first_other s)) None ≡ Some n → take (length s - n) (drop n s) ≡ after_spaces s
    go true e =
        let same : first_other s ≡ n = cc in
        take_all (length s - n) (drop n s) (omega (arith, length-drop n s)) ∙ (rw same at (passed_spaces s))
    go false e = cc

-- where there is none, nothing follows
pub all_spaces : (s : List ℕ) → cond (ltb (first_other s) (length s)) (Some (first_other s)) None ≡ None → [] ≡ after_spaces s
all_spaces s e = go (ltb (first_other s) (length s)) refl e
  where
    go : (x : Bool) → ltb (first_other s) (length s) ≡ x → cond x (Some (first_other s)) None ≡ None → [] ≡ after_spaces s
    go true h e = cc
    go false h e = sym (drop_of_length-le s (ltb-false _ _ h)) ∙ passed_spaces s

-- ---- there and back

passed : (k n : ℕ) (t : List ℕ) → after_spaces (drop k (spaces n) ++ t) ≡ after_spaces t
unfolding after_spaces
passed zero zero t = refl
passed zero (suc n) t = passed zero n t
passed (suc k) zero t = refl
passed (suc k) (suc n) t = passed k n t

both : (a b : Bool) → (a && b) ≡ true → (a ≡ true) × (b ≡ true)
both true true e = (refl, refl)
both true false e = (refl, e)
both false b e = (e, absurd (false≢true e))

-- a digit lies above every sign between words
above : (x : ℕ) → is_digit x ≡ true → 48 ≤ x
unfolding is_digit
above x e = leb-true 48 x (both (leb 48 x) (leb x 57) e).0

kept : (xs t : List ℕ) → 1 ≤ length xs → are_digits xs ≡ true → after_spaces (xs ++ t) ≡ xs ++ t
unfolding after_spaces are_digits
kept [] t h e = absurd (omega arith)
kept (x ∷ xs) t h e = let low = above x (both (is_digit x) (are_digits xs) e).0 in rw (ne_eqb x 32 (λ f. omega (arith, low, f)))

past : (b : ℕ) (xs t : List ℕ) → b < 48 → are_digits xs ≡ true → index_of b (xs ++ t) ≡ length xs + index_of b t
unfolding are_digits
past b [] t h e = omega arith
past b (x ∷ xs) t h e =
    let d = both (is_digit x) (are_digits xs) e in
    let low = above x d.0 in
    rw (ne_eqb x b (λ f. omega (arith, low, f, h))) (ap (λ (k : ℕ). 1 + k) (past b xs t h d.1) ∙ omega arith)

line : (xs : List ℕ) → are_digits xs ≡ true → up_to 10 (xs ++ (10 ∷ [])) ≡ xs
unfolding up_to
line xs e = take_at xs (10 ∷ []) _ (sym (past 10 xs (10 ∷ []) (omega arith) e ∙ add-zero (length xs)))

word : (xs : List ℕ) → are_digits xs ≡ true → up_to 32 xs ≡ xs
unfolding up_to
word xs e =
    let n : index_of 32 xs ≡ length xs = ap (index_of 32) (sym (append-nil xs)) ∙ past 32 xs [] (omega arith) e ∙ add-zero (length xs) in
    ap (λ (k : ℕ). take k xs) n ∙ take-length xs

-- a process that was put is read back
pub read_back : (p : ℕ) → 1 ≤ p → p ≤ 2147483647 → holder_of (holder_text p) ≡ Some p
unfolding holder_of holder_text pad_of holder_in process_of
read_back p least most =
    let d = are_digits-decimal p in
    let t : List ℕ = decimal p ++ (10 ∷ []) in
    let start : after_spaces (holder_text p) ≡ t = passed (length (decimal p)) 10 t ∙ kept (decimal p) (10 ∷ []) (decimal-least p) d in
    ap (λ (l : List ℕ). holder_in (number_of_text (up_to 32 (up_to 10 l)))) start
    ∙ ap (λ (l : List ℕ). holder_in (number_of_text (up_to 32 l))) (line (decimal p) d)
    ∙ ap (λ (l : List ℕ). holder_in (number_of_text l)) (word (decimal p) d)
    ∙ ap holder_in (read-decimal p (omega arith))
    ∙ rw (le-leb 1 p least, le-leb p 2147483647 most)

-- eleven bytes, for every process
pub text-length : (p : ℕ) → p < 2 ^ 32 → length (holder_text p) ≡ 11
unfolding holder_text
text-length p h =
    length-append (pad_of p) (decimal p ++ (10 ∷ [])) ∙
    omega (arith, length-append (decimal p) (10 ∷ []), pad-length p, decimal-most-u32 p h)
