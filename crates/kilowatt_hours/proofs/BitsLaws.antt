-- What follows from the definition of specs/Bits.antt, for proofs alone: no contract cites it. The bits may be worked out from any number that is
-- the figure's but for a power of two (`bits-scaled`), as from the 64 digits that `kwh_bits` has.
use mathlib.Core.Path.{◌≡◌, refl, sym, ap, ◌∙◌, subst}
use Prim.Native.Nat.{ℕ, suc, ◌+◌, ◌-◌, ◌*◌, ◌/◌, ◌%◌, ◌^◌, ◌≤◌, ◌<◌, compare, Ordering}
use native.Mathlib.Nat.{le_trans, le_of_eq, lt_of_lt_of_le, lt_of_le_of_lt, lt_of_not-le, not-le_of_lt, suc_inj, add-suc, add_comm}
use native.Mathlib.Nat.{mul_comm, mul_assoc, mul_left_comm, mul-pos, mod-eq_of_lt, mul-le-mul_right, mul-lt-mul_of_pos_right, le_of_mul-le-mul_right, le-div_iff_mul-le}
use native.Mathlib.Omega.{arith}
use mathlib.Core.Bool.{not}
use lib.Dec.{T, is_le, compare_is_eq, eqb, leb→le, nleb→lt, eqb→eq, eqb_refl}
use lib.Arith.{lt_of_le-ne}
use lib.Pow.{pow-add, pow_pos, pow_mono, shl_lt}
use lib.Count.{count_leading_zeros, leading_top}
use lib.Ieee.{size, nearest}
use lib.Ieee.Digits.{size-lt, size-le}
use lib.Ieee.Nearest.{closest, closest_same}
use Rattle.kilowatt_hours.specs.Bits.{kwh_bits}

-- ---- what `compare` says, and the number that it rounds to

-- what each outcome of a comparison says of its numbers
abbrev pub Cmp : Ordering → ℕ → ℕ → Type 0
Cmp Ordering.lt a b = a < b
Cmp Ordering.eq a b = a ≡ b
Cmp Ordering.gt a b = b < a

-- every comparison says it, so that a proof goes by its three outcomes
pub cmp : (a b : ℕ) → Cmp (compare a b) a b
cmp a b = go (compare a b) (leb→le a b) (nleb→lt a b) (eqb→eq a b) (λ (e : a ≡ b). subst (λ (x : ℕ). T (eqb a x)) e (eqb_refl a))
  where
    go : (o : Ordering) → (T (is_le o) → a ≤ b) → (T (not (is_le o)) → b < a) → (T (compare_is_eq o) → a ≡ b) → (a ≡ b → T (compare_is_eq o)) → Cmp o a b
    go Ordering.lt h k e n = lt_of_le-ne (h tt) n
    go Ordering.eq h k e n = e tt
    go Ordering.gt h k e n = k tt

-- the arm of `closest_whole` for less than half
pub nearest-below : (q a b : ℕ) → a < b → nearest q (compare a b) ≡ q
nearest-below q a b h = go (compare a b) (cmp a b)
  where
    go : (o : Ordering) → Cmp o a b → nearest q o ≡ q
    go Ordering.lt c = refl
    go Ordering.eq c = absurd (omega arith)
    go Ordering.gt c = absurd (omega arith)

-- its arm for a tie, to the even one
pub nearest-tie : (q a b : ℕ) → a ≡ b → nearest q (compare a b) ≡ q + q % 2
nearest-tie q a b h = go (compare a b) (cmp a b)
  where
    go : (o : Ordering) → Cmp o a b → nearest q o ≡ q + q % 2
    go Ordering.lt c = absurd (omega arith)
    go Ordering.eq c = refl
    go Ordering.gt c = absurd (omega arith)

-- its arm for more than half
pub nearest-above : (q a b : ℕ) → b < a → nearest q (compare a b) ≡ q + 1
nearest-above q a b h = go (compare a b) (cmp a b)
  where
    go : (o : Ordering) → Cmp o a b → nearest q o ≡ q + 1
    go Ordering.lt c = absurd (omega arith)
    go Ordering.eq c = absurd (omega arith)
    go Ordering.gt c = omega arith

-- ---- a figure of u steps and a number a that is its own but for a power of two

turned : (d m s t : ℕ) → d * s * m * t ≡ d * (m * t) * s
turned d m s t = simp (mul_assoc, mul_comm, mul_left_comm)

module _ (u a e k : ℕ) (same : a * 2 ^ k ≡ u * 2 ^ e) where
  reaches : (d : ℕ) → d * (1000000 * 2 ^ e) ≤ a → d * 2 ^ k ≤ u / 1000000
  reaches d h =
      let p : d * (1000000 * 2 ^ e) * 2 ^ k ≤ u * 2 ^ e = le_trans (mul-le-mul_right (2 ^ k) h) (le_of_eq same) in
      (le-div_iff_mul-le (leb→le 1 1000000 tt)).1 (le_of_mul-le-mul_right (le_trans (le_of_eq (turned d 1000000 (2 ^ k) (2 ^ e))) p) (pow_pos e))

  stays : (d : ℕ) → a < d * (1000000 * 2 ^ e) → u / 1000000 < d * 2 ^ k
  stays d h =
      lt_of_not-le (λ (g : d * 2 ^ k ≤ u / 1000000).
      let q : d * 2 ^ k * 1000000 * 2 ^ e ≤ u * 2 ^ e = mul-le-mul_right (2 ^ e) ((le-div_iff_mul-le (leb→le 1 1000000 tt)).0 g) in
      let p : u * 2 ^ e < d * (1000000 * 2 ^ e) * 2 ^ k = lt_of_le_of_lt (le_of_eq (sym same)) (mul-lt-mul_of_pos_right h (pow_pos k)) in
      not-le_of_lt p (le_trans (le_of_eq (sym (turned d 1000000 (2 ^ k) (2 ^ e)))) q))

  dropped : 8388608 * (1000000 * 2 ^ e) ≤ a → a < 16777216 * (1000000 * 2 ^ e) → size (u / 1000000) - 24 ≡ k
  dropped lo hi =
      let w = u / 1000000 in
      let least : 2 ^ (23 + k) ≤ w = le_trans (le_of_eq (pow-add 2 23 k)) (reaches 8388608 lo) in
      let most : w < 2 ^ (24 + k) = lt_of_lt_of_le (stays 16777216 hi) (le_of_eq (sym (pow-add 2 24 k))) in
      let x : size w ≤ 24 + k = size-le w (24 + k) most in
      let y : 23 + k < size w = lt_of_not-le (λ (g : size w ≤ 23 + k). not-le_of_lt (lt_of_lt_of_le (size-lt w) (pow_mono g)) least) in
      omega arith

  whole : closest u (1000000 * 2 ^ k) ≡ closest a (1000000 * 2 ^ e)
  whole =
      closest_same u (1000000 * 2 ^ k) a (1000000 * 2 ^ e) (mul-pos (leb→le 1 1000000 tt) (pow_pos k)) (mul-pos (leb→le 1 1000000 tt) (pow_pos e))
      (mul_left_comm u 1000000 (2 ^ e) ∙ ap (λ (x : ℕ). 1000000 * x) (sym same) ∙ mul_left_comm 1000000 a (2 ^ k))

-- the bits by any scaling of the number, of which the code takes the one that fills 64 digits
pub bits-scaled : (n a e k : ℕ) → a * 2 ^ k ≡ n * 2 ^ 149 * 2 ^ e → 8388608 * (1000000 * 2 ^ e) ≤ a → a < 16777216 * (1000000 * 2 ^ e)
    → kwh_bits n ≡ k * 8388608 + closest a (1000000 * 2 ^ e)
unfolding kwh_bits
bits-scaled n a e k same lo hi =
    ap (λ (j : ℕ). j * 8388608 + closest (n * 2 ^ 149) (1000000 * 2 ^ j)) (dropped (n * 2 ^ 149) a e k same lo hi)
    ∙ ap (λ (m : ℕ). k * 8388608 + m) (whole (n * 2 ^ 149) a e k same)

-- no energy is plus zero, a case of its own in `kwh_bits`
pub bits-zero : kwh_bits 0 ≡ 0
unfolding kwh_bits size
bits-zero = refl

-- ---- the 64 digits of a number that is moved up by its leading zeros, as a machine's shift does

-- the number as `kwh_bits` moves it up
abbrev pub digits_of : ℕ → ℕ
digits_of n = n * 2 ^ count_leading_zeros 64 n % 2 ^ 64

-- the move in `kwh_bits` is by fewer than 64 digits
pub zeros-few : (n : ℕ) → 0 < n → n < 2 ^ 64 → count_leading_zeros 64 n < 64
zeros-few n h l = omega (arith, (leading_top 64 n h l).1)

-- the shift loses nothing
digits-exact : (n : ℕ) → 0 < n → n < 2 ^ 64 → digits_of n ≡ n * 2 ^ count_leading_zeros 64 n
digits-exact n h l =
    let top = leading_top 64 n h l in
    let z = count_leading_zeros 64 n in
    mod-eq_of_lt (subst (λ (x : ℕ). n * 2 ^ z < 2 ^ x) (add_comm (suc top.0) z ∙ top.1) (shl_lt {a = n} (suc top.0) z top.3))

-- after it the highest digit is set, so that the quotient has the float's 24
pub digits-least : (n : ℕ) → 0 < n → n < 2 ^ 64 → 2 ^ 63 ≤ digits_of n
digits-least n h l =
    let top = leading_top 64 n h l in
    let z = count_leading_zeros 64 n in
    let j = top.0 in
    let least : 2 ^ (j + z) ≤ n * 2 ^ z = le_trans (le_of_eq (pow-add 2 j z)) (mul-le-mul_right (2 ^ z) top.2) in
    le_trans (le_of_eq (ap (λ (x : ℕ). 2 ^ x) (suc_inj (sym top.1 ∙ add-suc z j) ∙ add_comm z j))) (le_trans least (le_of_eq (sym (digits-exact n h l))))

-- moved up by z digits, and then by k more
moved : (n z e k : ℕ) → z + k ≡ 149 + e → n * 2 ^ z * 2 ^ k ≡ n * 2 ^ 149 * 2 ^ e
moved n z e k s =
    mul_assoc n (2 ^ z) (2 ^ k) ∙ ap (λ (x : ℕ). n * x) (sym (pow-add 2 z k) ∙ ap (λ (x : ℕ). 2 ^ x) s ∙ pow-add 2 149 e)
    ∙ sym (mul_assoc n (2 ^ 149) (2 ^ e))

-- the bits from these digits, by a unit that leaves 24 of them
pub bits-digits : (n e : ℕ) → 0 < n → n < 2 ^ 64 → 8388608 * (1000000 * 2 ^ e) ≤ digits_of n → digits_of n < 16777216 * (1000000 * 2 ^ e)
    → kwh_bits n ≡ (149 + e - count_leading_zeros 64 n) * 8388608 + closest (digits_of n) (1000000 * 2 ^ e)
bits-digits n e h l =
    let z = count_leading_zeros 64 n in
    let k = 149 + e - z in
    let few : z < 64 = zeros-few n h l in
    let all : z + k ≡ 149 + e = omega arith in
    bits-scaled n (digits_of n) e k (ap (λ (x : ℕ). x * 2 ^ k) (digits-exact n h l) ∙ moved n z e k all)
