-- Two-bit arithmetic: each of the four places by itself, where it is linear.
use Prim.Native.Nat.{ℕ, zero, suc, ◌+◌, ◌-◌, ◌*◌, ◌/◌, ◌%◌, ◌^◌, ◌<◌, ◌≤◌}
use native.Mathlib.Nat.{div-div-eq-div-mul}
use native.Mathlib.Omega.{arith}
use mathlib.Core.Path.{◌≡◌}
use mathlib.Core.Bool.{Bool, true, false, cond}
use lib.Dec.{eqb}
use Rattle.energy_log.specs.Pair.{pair_of, packed, pair_after, put_pair}

-- what holds at 0, 1, 2 and 3 holds below 4
pub below-four : (P : ℕ → Type 0) → P 0 → P 1 → P 2 → P 3 → (j : ℕ) → j < 4 → P j
below-four P a b c d zero h = a
below-four P a b c d (suc zero) h = b
below-four P a b c d (suc (suc zero)) h = c
below-four P a b c d (suc (suc (suc zero))) h = d
below-four P a b c d (suc (suc (suc (suc j)))) h = absurd (omega arith)

-- a pair is one of four values
pub pair-below : (b j : ℕ) → pair_of b j < 4
unfolding pair_of
pair-below b j = omega arith

-- ---- four pairs and their byte

-- each of them is read back at its place
pub packed-at : (P : ℕ → ℕ) → ((m : ℕ) → P m < 4) → (m : ℕ) → m < 4 → pair_of (packed (P 0) (P 1) (P 2) (P 3)) m ≡ P m
unfolding pair_of packed
packed-at P h =
    let a = h 0 in
    let b = h 1 in
    let c = h 2 in
    let d = h 3 in
    below-four (λ m. pair_of (packed (P 0) (P 1) (P 2) (P 3)) m ≡ P m) (omega arith) (omega arith) (omega arith) (omega arith)

-- four pairs make no more than a byte
pub packed_byte : (P : ℕ → ℕ) → ((m : ℕ) → P m < 4) → packed (P 0) (P 1) (P 2) (P 3) < 256
unfolding packed
packed_byte P h = omega (arith, h 0, h 1, h 2, h 3)

-- omega does not see through b / 64 and b / 16 at once: one digit at a time
digit : (x : ℕ) → x % 4 + x / 4 * 4 ≡ x
digit x = omega arith

digits : (b a c p q r d : ℕ) → p + a * 4 ≡ b → q + c * 4 ≡ a → r + d * 4 ≡ c → p + 4 * q + 16 * r + 64 * d ≡ b
digits b a c p q r d x y z = omega arith

-- a byte is its four pairs packed
pub pairs-packed : (b : ℕ) → b < 256 → packed (pair_of b 0) (pair_of b 1) (pair_of b 2) (pair_of b 3) ≡ b
unfolding pair_of packed
pairs-packed b h =
    let x : b / 4 / 4 ≡ b / 16 = div-div-eq-div-mul b 4 4 in
    let y : b / 16 / 4 ≡ b / 64 = div-div-eq-div-mul b 16 4 in
    let u : b / 64 % 4 ≡ b / 64 = omega arith in
    let w : b / 1 ≡ b = omega arith in
    rw (u, w) (digits b (b / 4) (b / 16) (b % 4) (b / 4 % 4) (b / 16 % 4) (b / 64) (digit b) (rw x at (digit (b / 4))) (rw y at (digit (b / 16))))

-- two bytes with the same pairs are one
pub same-pairs : (a b : ℕ) → a < 256 → b < 256 → ((m : ℕ) → m < 4 → pair_of a m ≡ pair_of b m) → a ≡ b
unfolding packed
same-pairs a b k l h =
    omega (arith, pairs-packed a k, pairs-packed b l, h 0 (omega arith), h 1 (omega arith), h 2 (omega arith), h 3 (omega arith))

-- ---- another pair

after-below : (b j k : ℕ) → k < 4 → (m : ℕ) → pair_after b j k m < 4
after-below b j k h m = go (eqb m j)
  where
    go : (x : Bool) → cond x k (pair_of b m) < 4
    go true = h
    go false = pair-below b m

-- it is there, and the others stay
pub pair_put : (b j k : ℕ) → k < 4 → (m : ℕ) → m < 4 → pair_of (put_pair b j k) m ≡ pair_after b j k m
unfolding put_pair
pair_put b j k h m l = packed-at (pair_after b j k) (after-below b j k h) m l

-- the byte with another pair is a byte
pub pair-byte : (b j k : ℕ) → k < 4 → put_pair b j k < 256
unfolding put_pair
pair-byte b j k h = packed_byte (pair_after b j k) (after-below b j k h)

-- ---- by shifts

-- for `pair_of`: a pair is read by a shift
pub pair-shift : (b j : ℕ) → j < 4 → b / 2 ^ (2 * j) % 4 ≡ pair_of b j
unfolding pair_of
pair-shift b = below-four (λ j. b / 2 ^ (2 * j) % 4 ≡ pair_of b j) (omega arith) (omega arith) (omega arith) (omega arith)

module _ (b : ℕ) (h : b < 256) where
  sum : pair_of b 0 + 4 * pair_of b 1 + 16 * pair_of b 2 + 64 * pair_of b 3 ≡ b
  unfolding packed
  sum = pairs-packed b h

  -- for `put_pair`: the old pair at its place can be taken off the byte
  pub shift-below : (j : ℕ) → j < 4 → pair_of b j * 2 ^ (2 * j) % 256 ≤ b
  shift-below =
      let e = sum in
      below-four (λ m. pair_of b m * 2 ^ (2 * m) % 256 ≤ b) (omega arith) (omega arith) (omega arith) (omega arith)

  -- for `put_pair`: the old pair taken off and the new one added, each at its place
  pub put-shift : (k : ℕ) → k < 4 → (j : ℕ) → j < 4 → b - pair_of b j * 2 ^ (2 * j) % 256 + k * 2 ^ (2 * j) % 256 ≡ put_pair b j k
  unfolding put_pair packed
  put-shift k l =
      let e = sum in
      let p = pair-below b 0 in
      let q = pair-below b 1 in
      let r = pair-below b 2 in
      let t = pair-below b 3 in
      below-four (λ m. b - pair_of b m * 2 ^ (2 * m) % 256 + k * 2 ^ (2 * m) % 256 ≡ put_pair b m k) (omega arith) (omega arith) (omega arith) (omega arith)
