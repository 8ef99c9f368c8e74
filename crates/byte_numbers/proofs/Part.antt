-- A part of a buffer that is lent on, as seen from the whole. Source: document 01: "In the reply buffer the data part is lent on
-- from its fifth byte to whoever fills it".
use mathlib.Core.Path.{◌≡◌, refl, sym, ap, ap₂, ◌∙◌}
use mathlib.Core.List.{List, [], ◌∷◌, ◌++◌, append-nil}
use Prim.Native.Nat.{ℕ, zero, suc, ◌+◌, ◌-◌, ◌≤◌}
use native.Mathlib.Nat.{zero-add, suc-add}
use native.Mathlib.Omega.{arith}
use lib.ListN.{length, take, drop, set, length-drop, take-append-drop, drop_of_length-le}
use lib.Seq.{take-set-lt, drop-set-lt, take_all}
use Rattle.byte_numbers.specs.Place.{written}

written-nil : (i : ℕ) (bs : List ℕ) → written [] i bs ≡ []
unfolding written
written-nil i [] = refl
written-nil i (b ∷ bs) = written-nil (suc i) bs

written-suc : (x : ℕ) (s : List ℕ) (i : ℕ) (bs : List ℕ) → written (x ∷ s) (suc i) bs ≡ x ∷ written s i bs
unfolding written
written-suc x s i [] = refl
written-suc x s i (b ∷ bs) = written-suc x (set s i b) (suc i) bs

-- what is written into the part from place a on is written into the whole a places further
pub written_from : (a : ℕ) (s : List ℕ) (i : ℕ) (bs : List ℕ) → take a s ++ written (drop a s) i bs ≡ written s (a + i) bs
written_from zero s i bs = rw zero-add
written_from (suc a) [] i bs = written-nil i bs ∙ sym (written-nil (suc a + i) bs)
written_from (suc a) (x ∷ s) i bs =
    ap (λ (l : List ℕ). x ∷ l) (written_from a s i bs) ∙ sym (rw suc-add (written-suc x s (a + i) bs))

within : (k : ℕ) (s : List ℕ) (i : ℕ) (bs : List ℕ) → i + length bs ≤ k → written (take k s) i bs ++ drop k s ≡ written s i bs
unfolding written
within k s i [] h = take-append-drop k s
within k s i (b ∷ bs) h =
    ap₂ (λ (x y : List ℕ). written x (suc i) bs ++ y)
    (sym (take-set-lt k s i b (omega arith))) (sym (drop-set-lt k s i b (omega arith)))
    ∙ within k (set s i b) (suc i) bs (omega arith)

-- ---- what `&mut s[a..a + k]` leaves of s where its borrower wrote bs from place i of the part: bs, written a places further on.

-- a store into a lent part is one into the whole buffer, further on
pub written-part : (a k : ℕ) (s : List ℕ) (i : ℕ) (bs : List ℕ) → i + length bs ≤ k
    → take a s ++ (written (take k (drop a s)) i bs ++ drop k (drop a s)) ≡ written s (a + i) bs
written-part a k s i bs h = ap (λ (l : List ℕ). take a s ++ l) (within k (drop a s) i bs h) ∙ written_from a s i bs

-- `&mut s[a..]`, whose borrower may write past the end
pub written-rest : (a : ℕ) (s : List ℕ) (i : ℕ) (bs : List ℕ)
    → take a s ++ (written (take (length s - a) (drop a s)) i bs ++ drop (length s - a) (drop a s)) ≡ written s (a + i) bs
written-rest a s i bs =
    let e : length (drop a s) ≡ length s - a = length-drop a s in
    ap₂ (λ (x y : List ℕ). take a s ++ (written x i bs ++ y))
    (take_all (length s - a) (drop a s) (omega arith))
    (drop_of_length-le (drop a s) {i = length s - a} (omega arith))
    ∙ ap (λ (l : List ℕ). take a s ++ l) (append-nil (written (drop a s) i bs))
    ∙ written_from a s i bs
