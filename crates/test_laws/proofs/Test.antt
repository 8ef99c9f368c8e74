-- Tests that pass, and what follows: both halves of one, the choice that it made, and a test at every number below a bound, which antt
-- computes.
use Prim.Native.Nat.{ℕ, zero, suc, ◌<◌}
use native.Mathlib.Omega.{arith}
use native.Mathlib.Nat.{not-suc-le-zero}
use mathlib.Core.Path.{◌≡◌, refl}
use mathlib.Core.Bool.{Bool, true, false, ◌&&◌, cond, false≢true}
use lib.Dec.{T, ltb}
use borrow.Author.Tests.{ltb-true, ltb-false}

-- both halves of a test that passes
pub both : (a b : Bool) → (a && b) ≡ true → (a ≡ true) × (b ≡ true)
both true b e = (refl, e)
both false b e = absurd (false≢true e)

-- a test that computes to true, as an equation to rewrite with
pub passed : (b : Bool) → T b → b ≡ true
passed true t = refl
passed false t = absurd t

-- a choice that did not come out as the second value came out as the first
pub chosen : {A : Type 0} (b : Bool) (x y : A) {z : A} → cond b x y ≡ z → (y ≡ z → ⊥) → (b ≡ true) × (x ≡ z)
chosen true x y p other = (refl, p)
chosen false x y p other = absurd (other p)

-- what holds on both sides of a test
pub either : {X : Type 0} (P : X → Type 0) (b : Bool) {x y : X} → P x → P y → P (cond b x y)
either P true p q = p
either P false p q = q

-- the test f passes at each number below n
unfoldable pub every_below : (ℕ → Bool) → ℕ → Bool
every_below f zero = true
every_below f (suc n) = f n && every_below f n

-- so it passes at any of them
pub below : (f : ℕ → Bool) (n : ℕ) → every_below f n ≡ true → (k : ℕ) → k < n → f k ≡ true
unfolding every_below
below f zero t k h = absurd (not-suc-le-zero h)
below f (suc n) t k h = go (ltb k n) refl (below f n (both (f n) (every_below f n) t).1 k)
  where
    go : (b : Bool) → ltb k n ≡ b → (k < n → f k ≡ true) → f k ≡ true
    go true e rec = rec (ltb-true k n e)
    go false e rec = let q : k ≡ n = omega (arith, ltb-false k n e) in rw q (both (f n) (every_below f n) t).0
