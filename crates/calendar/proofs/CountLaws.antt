-- What follows from the definitions of specs/Count.antt, for proofs alone: no contract cites it.
use Prim.Native.Nat.{ℕ, zero, suc, ◌+◌, ◌-◌, ◌≤◌, ◌<◌}
use native.Mathlib.Omega.{arith}
use mathlib.Core.Path.{◌≡◌, refl}
use mathlib.Core.Bool.{Bool, true, false, ◌&&◌}
use lib.Dec.{ltb}
use borrow.Author.Tests.{ltb-true, ltb-false, lt-ltb, le-ltb}
use Rattle.test_laws.proofs.Test.{both}
use Rattle.calendar.specs.Count.{Place, starts, count_off}

-- p is the place n steps past the start, in one of the first N pieces
pub record Lies (len : ℕ → ℕ) (N n : ℕ) (p : Place) : Type 0 where
  pub piece-below : p.piece < N
  pub rest_below : p.rest < len p.piece
  pub total : starts len p.piece + p.rest ≡ n

module _ (len : ℕ → ℕ) where
  -- a later piece begins no earlier
  pub starts-mono : (j k : ℕ) → j ≤ k → starts len j ≤ starts len k
  unfolding starts
  starts-mono j zero h = let e : j ≡ 0 = omega arith in rw e (omega arith)
  starts-mono j (suc k) h = go (ltb j (suc k)) refl (starts-mono j k)
    where
      go : (b : Bool) → ltb j (suc k) ≡ b → (j ≤ k → starts len j ≤ starts len k) → starts len j ≤ starts len (suc k)
      go true e rec = let p : starts len j ≤ starts len k = rec (omega (arith, ltb-true j (suc k) e)) in omega arith
      go false e rec = let q : j ≡ suc k = omega (arith, ltb-false j (suc k) e) in rw q (omega arith)

  -- a piece ends before a later one begins
  pub ends-before : (k N : ℕ) → k < N → starts len k + len k ≤ starts len N
  unfolding starts
  ends-before k N h = starts-mono (suc k) N h

  counted-from : (fuel j k r : ℕ) → j ≤ k → k < j + fuel → r < len k → count_off len fuel j (starts len k - starts len j + r) ≡ record { piece = k; rest = r }
  unfolding starts count_off
  counted-from zero j k r hj hk hr = absurd (omega arith)
  counted-from (suc fuel) j k r hj hk hr = go (ltb j k) refl (counted-from fuel (suc j) k r)
    where
      go : (b : Bool) → ltb j k ≡ b
          → (suc j ≤ k → k < suc j + fuel → r < len k → count_off len fuel (suc j) (starts len k - starts len (suc j) + r) ≡ record { piece = k; rest = r })
          → count_off len (suc fuel) j (starts len k - starts len j + r) ≡ record { piece = k; rest = r }
      go true e rec =
          let hlt : suc j ≤ k = ltb-true j k e in
          let m : starts len j + len j ≤ starts len k = starts-mono (suc j) k hlt in
          let s : starts len k - starts len j + r - len j ≡ starts len k - (starts len j + len j) + r = omega arith in
          rw (le-ltb (starts len k - starts len j + r) (len j) (omega arith), s) (rec hlt (omega arith) hr)
      go false e rec =
          let q : j ≡ k = omega (arith, ltb-false j k e) in
          let s : starts len k - starts len k + r ≡ r = omega arith in
          rw (q, s, lt-ltb r (len k) hr)

  -- counting off finds the place that is meant
  pub counted : (N n : ℕ) (p : Place) → Lies len N n p → count_off len N 0 n ≡ p
  unfolding starts
  counted N n p l =
      let s : n ≡ starts len p.piece - 0 + p.rest = omega (arith, l.total) in
      rw s (counted-from N 0 p.piece p.rest (omega arith) (omega (arith, l.piece-below)) l.rest_below)

  located : (N n : ℕ) → n < starts len N → (p : Place) × Lies len N n p
  unfolding starts
  located zero n h = absurd (omega arith)
  located (suc N) n h = go (ltb n (starts len N)) refl (located N n)
    where
      go : (b : Bool) → ltb n (starts len N) ≡ b → (n < starts len N → (p : Place) × Lies len N n p) → (p : Place) × Lies len (suc N) n p
      go true e rec =
          let w = rec (ltb-true n (starts len N) e) in
          (w.0, record { piece-below = omega (arith, w.1.piece-below); rest_below = w.1.rest_below; total = w.1.total })
      go false e rec =
          let ge = ltb-false n (starts len N) e in
          (record { piece = N; rest = n - starts len N }, record { piece-below = omega arith; rest_below = omega arith; total = omega arith })

  -- counting off always finds a place, where there is one
  pub counts-off : (N n : ℕ) → n < starts len N → Lies len N n (count_off len N 0 n)
  counts-off N n h = let w = located N n h in rw (counted N n w.0 w.1) w.1

-- ---- A test at every piece, which antt computes in one walk along the row

-- the test f passes at n pieces, from piece k on, which begins at s: f sees a piece's number and its beginning
unfoldable pub every_piece : (ℕ → ℕ) → (ℕ → ℕ → Bool) → ℕ → ℕ → ℕ → Bool
every_piece len f zero k s = true
every_piece len f (suc n) k s = f k s && every_piece len f n (suc k) (s + len k)

-- so it passes at any of them
pub at_piece : (len : ℕ → ℕ) (f : ℕ → ℕ → Bool) (n j : ℕ) → every_piece len f n j (starts len j) ≡ true
    → (k : ℕ) → j ≤ k → k < j + n → f k (starts len k) ≡ true
unfolding every_piece starts
at_piece len f zero j t k h l = absurd (omega arith)
at_piece len f (suc n) j t k h l = go (ltb j k) refl (at_piece len f n (suc j) (both (f j (starts len j)) _ t).1 k)
  where
    go : (b : Bool) → ltb j k ≡ b → (suc j ≤ k → k < suc j + n → f k (starts len k) ≡ true) → f k (starts len k) ≡ true
    go true e rec = rec (ltb-true j k e) (omega arith)
    go false e rec =
        let q : k ≡ j = omega (arith, ltb-false j k e) in
        rw q (both (f j (starts len j)) _ t).0
