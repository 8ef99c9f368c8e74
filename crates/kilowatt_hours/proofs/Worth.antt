-- What bits are worth: k * 2 ^ 23 + q is worth q * 2 ^ k (`worth-at`), also where q is 2 ^ 24 and carries into the exponent, and larger bits are worth
-- more (`worth-lt`). 2 ^ 23 is 8388608 and 2 ^ 24 is 16777216, written out for `omega`.
use mathlib.Core.Path.{◌≡◌, sym, ap, ◌∙◌}
use mathlib.Core.Logic.{inl, inr}
use Prim.Native.Nat.{ℕ, zero, suc, ◌+◌, ◌-◌, ◌*◌, ◌/◌, ◌%◌, ◌^◌, ◌≤◌, ◌<◌}
use native.Mathlib.Nat.{lt_trans, eq-or-lt_of_le, le_of_suc-le-suc, not-suc-le-zero, mul-one, mul_assoc, mul-lt-mul_of_pos_right, pow-succ'}
use native.Mathlib.Omega.{arith}
use mathlib.Core.Bool.{Bool, true, false, not}
use lib.Dec.{T, ltb, ltb→lt, nltb→le}
use lib.Pow.{pow_pos}
use Rattle.kilowatt_hours.specs.Nearest.{steps, worth}

worth-is : (b x t : ℕ) → b / 8388608 ≡ x → b % 8388608 ≡ t → worth b ≡ steps x t
unfolding worth
worth-is b x t e f = λ i. steps (e i) (f i)

-- by what q is: no 24th digit, one, or a carry out of the 24
small : (k q : ℕ) → q < 8388608 → (0 < k → 8388608 ≤ q) → worth (k * 8388608 + q) ≡ q * 2 ^ k
unfolding steps
small zero q l h = worth-is (0 * 8388608 + q) 0 q (omega arith) (omega arith) ∙ sym (mul-one q)
small (suc k) q l h = let g : 8388608 ≤ q = h (omega arith) in absurd (omega arith)

middle : (k q : ℕ) → 8388608 ≤ q → q < 16777216 → worth (k * 8388608 + q) ≡ q * 2 ^ k
unfolding steps
middle k q h l =
    let e : 8388608 + (q - 8388608) ≡ q = omega arith in
    worth-is (k * 8388608 + q) (suc k) (q - 8388608) (omega arith) (omega arith) ∙ ap (λ (x : ℕ). x * 2 ^ k) e

carry : (k : ℕ) → worth (k * 8388608 + 16777216) ≡ 16777216 * 2 ^ k
unfolding steps
carry k =
    worth-is (k * 8388608 + 16777216) (suc (suc k)) 0 (omega arith) (omega arith)
    ∙ ap (λ (x : ℕ). 8388608 * x) (pow-succ' 2 k) ∙ sym (mul_assoc 8388608 2 (2 ^ k))

-- what bits are worth by exponent and digits, for every comparison of floats
pub worth-at : (k q : ℕ) → q ≤ 16777216 → (0 < k → 8388608 ≤ q) → worth (k * 8388608 + q) ≡ q * 2 ^ k
worth-at k q l h = go (ltb q 8388608) (ltb→lt q 8388608) (nltb→le q 8388608)
  where
    go : (b : Bool) → (T b → q < 8388608) → (T (not b) → 8388608 ≤ q) → worth (k * 8388608 + q) ≡ q * 2 ^ k
    go true y n = small k q (y tt) h
    go false y n = elim (eq-or-lt_of_le l) [
      | inl e ↦ ap (λ (x : ℕ). worth (k * 8388608 + x)) e ∙ carry k ∙ ap (λ (x : ℕ). x * 2 ^ k) (sym e)
      | inr g ↦ middle k q (n tt) g
    ]

-- one more in the bits is more
step-at : (k q : ℕ) → q < 16777216 → (0 < k → 8388608 ≤ q) → worth (k * 8388608 + q) < worth (suc (k * 8388608 + q))
step-at k q l h =
    let a : worth (k * 8388608 + q) ≡ q * 2 ^ k = worth-at k q (omega arith) h in
    let s : k * 8388608 + suc q ≡ suc (k * 8388608 + q) = omega arith in
    let b : worth (k * 8388608 + suc q) ≡ suc q * 2 ^ k = worth-at k (suc q) (omega arith) (λ (p : 0 < k). let g : 8388608 ≤ q = h p in omega arith) in
    let d : q * 2 ^ k < suc q * 2 ^ k = mul-lt-mul_of_pos_right (omega arith) (pow_pos k) in
    let t : worth (k * 8388608 + suc q) ≡ worth (suc (k * 8388608 + q)) = ap worth s in
    omega arith

step : (b : ℕ) → worth b < worth (suc b)
step b =
    let k = b / 8388608 - 1 in
    let q = b - k * 8388608 in
    let e : k * 8388608 + q ≡ b = omega arith in
    rw e at (step-at k q (omega arith) (λ p. omega arith))

-- greater bits are worth more, so that neighbours in bits are neighbours in worth
pub worth-lt : (b c : ℕ) → b < c → worth b < worth c
worth-lt b zero h = absurd (not-suc-le-zero h)
worth-lt b (suc c) h = elim (eq-or-lt_of_le (le_of_suc-le-suc h)) [ inl e ↦ rw e (step c) | inr l ↦ lt_trans (worth-lt b c l) (step c) ]
