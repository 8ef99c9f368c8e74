-- What follows from the definitions of specs/Display.antt, for proofs alone: no contract cites it.
use mathlib.Core.Path.{◌≡◌, refl}
use mathlib.Core.Bool.{Bool, true, false}
use Prim.Native.Nat.{ℕ, ◌+◌, ◌/◌, ◌%◌, ◌^◌, ◌≤◌, ◌<◌}
use native.Mathlib.Omega.{arith}
use lib.Dec.{eqb}
use borrow.Author.Tests.{eq-eqb, ne_eqb, eqb-false}
use Rattle.meter_record.specs.Display.{is_bit, with_bit}

-- ---- a bit that is there, and one that is not

-- for `with_first`: an odd mask has bit 0 already
pub first_there : (n : ℕ) → n % 2 ≡ 1 → n ≡ with_bit n 0
unfolding with_bit is_bit
first_there n h = let b : n / 2 ^ 0 % 2 ≡ 1 = omega arith in simp (eq-eqb _ _ b)

-- for `with_first`: one more gives an even mask bit 0
pub first_set : (n : ℕ) → (n % 2 ≡ 1 → ⊥) → n + 1 ≡ with_bit n 0
unfolding with_bit is_bit
first_set n h = let b : n / 2 ^ 0 % 2 ≡ 1 → ⊥ = λ q. h (omega arith) in simp (ne_eqb _ _ b)

-- for `with_last`: a mask from 2 ^ 31 on has bit 31 already
pub last_there : (n : ℕ) → 0x80000000 ≤ n → n < 2 ^ 32 → n ≡ with_bit n 31
unfolding with_bit is_bit
last_there n h l = let b : n / 2 ^ 31 % 2 ≡ 1 = omega arith in simp (eq-eqb _ _ b)

-- for `with_last`: 2 ^ 31 more gives a lower mask bit 31
pub last_set : (n : ℕ) → n < 0x80000000 → n + 0x80000000 ≡ with_bit n 31
unfolding with_bit is_bit
last_set n h = let b : n / 2 ^ 31 % 2 ≡ 1 → ⊥ = λ q. omega arith in simp (ne_eqb _ _ b)

-- a byte's lowest bit
pub first_byte : (n : ℕ) → n ≤ 255 → with_bit n 0 ≤ 255
unfolding with_bit is_bit
first_byte n h = go (eqb (n / 2 ^ 0 % 2) 1) refl
  where
    go : (b : Bool) → eqb (n / 2 ^ 0 % 2) 1 ≡ b → with_bit n 0 ≤ 255
    go true e = simp e h
    go false e = let odd : n / 2 ^ 0 % 2 ≡ 1 → ⊥ = eqb-false (n / 2 ^ 0 % 2) 1 e in simp e (omega arith)
