-- What follows from the definitions of a key and of its place: that a key is its own, and what a walk over the places finds.
use Prim.Native.Nat.{ℕ, zero, suc, ◌+◌, ◌≤◌, ◌<◌}
use native.Mathlib.Nat.{add-zero}
use native.Mathlib.Omega.{arith}
use mathlib.Core.Path.{◌≡◌, refl, sym, ap₂, ◌∙◌}
use mathlib.Core.Bool.{Bool, true, false, cond}
use mathlib.Core.List.{List}
use lib.Dec.{eqb}
use borrow.Author.Tests.{eqb-true, eqb-false, eq-eqb}
use Rattle.slots.specs.declared.key.Key.{Key}
use Rattle.meter_store.specs.Store.{key_at, same_key, first_from}

-- ---- keys

-- a key that was put is found
pub same_self : (k : Key) → same_key k k ≡ true
unfolding same_key
same_self k = simp (eq-eqb k.month k.month refl, eq-eqb k.day k.day refl, eq-eqb k.number k.number refl)

-- ---- the walk over the places

-- the search ends where the key is
pub first-hit : (s : List ℕ) (k : Key) (i n : ℕ) → same_key (key_at s i) k ≡ true → first_from s k i (suc n) ≡ i
unfolding first_from
first-hit s k i n e = simp e

-- it goes on where it is not
pub first-miss : (s : List ℕ) (k : Key) (i n : ℕ) → same_key (key_at s i) k ≡ false → first_from s k i (suc n) ≡ first_from s k (suc i) n
unfolding first_from
first-miss s k i n e = simp e

-- it ends behind the last place
pub first-end : (s : List ℕ) (k : Key) (i : ℕ) → first_from s k i 0 ≡ i
unfolding first_from
first-end s k i = refl

-- what stands at the place that the walk found
pub first-has : (s : List ℕ) (k : Key) (i n : ℕ) → first_from s k i n < i + n → same_key (key_at s (first_from s k i n)) k ≡ true
first-has s k i zero h = absurd (omega (arith, first-end s k i))
first-has s k i (suc n) h = go (same_key (key_at s i) k) refl (first-has s k (suc i) n)
  where
    go : (b : Bool) → same_key (key_at s i) k ≡ b → (first_from s k (suc i) n < suc i + n → same_key (key_at s (first_from s k (suc i) n)) k ≡ true)
        → same_key (key_at s (first_from s k i (suc n))) k ≡ true
    go true e on = rw (first-hit s k i n e) e
    go false e on = rw (first-miss s k i n e) (on (omega (arith, first-miss s k i n e)))

-- no place before it has the key
pub first-before : (s : List ℕ) (k : Key) (i n j : ℕ) → i ≤ j → j < first_from s k i n → same_key (key_at s j) k ≡ false
first-before s k i zero j l h = absurd (omega (arith, first-end s k i))
first-before s k i (suc n) j l h = go (same_key (key_at s i) k) refl (eqb i j) refl (first-before s k (suc i) n j)
  where
    go : (b : Bool) → same_key (key_at s i) k ≡ b → (d : Bool) → eqb i j ≡ d
        → (suc i ≤ j → j < first_from s k (suc i) n → same_key (key_at s j) k ≡ false) → same_key (key_at s j) k ≡ false
    go true e d q on = absurd (omega (arith, first-hit s k i n e))
    go false e true q on = rw (← eqb-true i j q) e
    go false e false q on =
        let d = eqb-false i j q in
        let b : suc i ≤ j = omega (arith, d) in
        on b (omega (arith, first-miss s k i n e))

-- the first place that has the key is the one that the walk finds
pub first-is : (s : List ℕ) (k : Key) (i n p : ℕ) → i ≤ p → p < i + n → ((j : ℕ) → j < p → same_key (key_at s j) k ≡ false)
    → same_key (key_at s p) k ≡ true → first_from s k i n ≡ p
first-is s k i zero p l h before hit = absurd (omega arith)
first-is s k i (suc n) p l h before hit = go (eqb i p) refl (λ m. first-is s k (suc i) n p m (omega arith) before hit)
  where
    go : (b : Bool) → eqb i p ≡ b → (suc i ≤ p → first_from s k (suc i) n ≡ p) → first_from s k i (suc n) ≡ p
    go true q on = rw (eqb-true i p q) (first-hit s k p n hit)
    go false q on =
        let d = eqb-false i p q in
        let m : suc i ≤ p = omega (arith, d) in
        first-miss s k i n (before i m) ∙ on m

-- where no place has the key, it ends behind them
pub first-none : (s : List ℕ) (k : Key) (i n : ℕ) → ((j : ℕ) → j < i + n → same_key (key_at s j) k ≡ false) → first_from s k i n ≡ i + n
first-none s k i zero none = first-end s k i ∙ sym (add-zero i)
first-none s k i (suc n) none =
    let e : suc i + n ≡ i + suc n = omega arith in
    first-miss s k i n (none i (omega arith)) ∙ first-none s k (suc i) n (λ j b. none j (omega arith)) ∙ e

-- it sees no more of a store than which places have the key
pub first-same : (s t : List ℕ) (k : Key) (i n : ℕ) → ((j : ℕ) → j < i + n → same_key (key_at t j) k ≡ same_key (key_at s j) k)
    → first_from t k i n ≡ first_from s k i n
unfolding first_from
first-same s t k i zero same = refl
first-same s t k i (suc n) same =
    ap₂ (λ (b : Bool) (r : ℕ). cond b i r) (same i (omega arith)) (first-same s t k (suc i) n (λ j b. same j (omega arith)))
