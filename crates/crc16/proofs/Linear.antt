-- Linearity over xor, in general and then for the CRC: a function is linear where it works on the xor of two numbers as on each apart.
-- Such a function is known by what it does to the powers of two, so two ways to compute one agree by a short computed test. That is for
-- ways of computing the CRC that take more than a bit at a time. Document 01 asks for no particular way.
use mathlib.Core.Path.{◌≡◌, refl, sym, ap, ap₂, ◌∙◌, subst}
use mathlib.Core.Bool.{true}
use Prim.Native.Nat.{ℕ, zero, suc, ◌+◌, ◌*◌, ◌/◌, ◌%◌, ◌^◌, ◌<◌}
use native.Mathlib.Nat.{le_of_suc-le-suc, not-suc-le-zero, add-zero, zero-mul, one-mul, mod-lt, zero-lt-suc, le_step, le_refl, mul-one, mod-one}
use native.Mathlib.Numerals.{one-add, add-one}
use native.Mathlib.Omega.{arith}
use lib.Dec.{eqb}
use borrow.Author.Tests.{eqb-true}
use lib.Arith.{bin_ind, lt-one}
use lib.Pow.{pow_pos, split, shr_lt, mod-mod-pow, field}
use lib.Bits.{bit_xor, differ, xor_step, xor_zero_r, xor_self, xor_comm, xor_shr, xor_mod, xor_block, xor_shifted, shifted_half, shifted_even}
use lib.Count.{ones, ones_in, ones_step}
use Rattle.test_laws.proofs.Test.{every_below, below}
use Rattle.crc16.specs.Crc.{times, bit_step, polynomial}

-- ---- xor

-- what holds of 0 and of 1 holds of every bit
pub of-bit : (P : ℕ → Type 0) → P 0 → P 1 → (x : ℕ) → x < 2 → P x
of-bit P p0 p1 zero h = p0
of-bit P p0 p1 (suc zero) h = p1
of-bit P p0 p1 (suc (suc x)) h = absurd (not-suc-le-zero (le_of_suc-le-suc (le_of_suc-le-suc h)))

bit : (a : ℕ) → a % 2 < 2
bit a = mod-lt a (zero-lt-suc 1)

bits-assoc : (x y z : ℕ) → x < 2 → y < 2 → z < 2 → differ (bit_xor x y) z ≡ differ x (bit_xor y z)
bits-assoc x y z hx hy hz =
    of-bit (λ (x : ℕ). differ (bit_xor x y) z ≡ differ x (bit_xor y z))
    (of-bit (λ (y : ℕ). differ y z ≡ bit_xor y z) refl (of-bit (λ (z : ℕ). differ 1 z ≡ bit_xor 1 z) refl refl z hz) y hy)
    (of-bit (λ (y : ℕ). differ (bit_xor 1 y) z ≡ differ 1 (bit_xor y z))
    refl
    (of-bit (λ (z : ℕ). z ≡ differ 1 (bit_xor 1 z)) refl refl z hz)
    y
    hy)
    x
    hx

-- xor regrouped, to bring registers side by side
pub xor_assoc : (a b c : ℕ) → bit_xor (bit_xor a b) c ≡ bit_xor a (bit_xor b c)
xor_assoc a =
    bin_ind (λ (n : ℕ). (b c : ℕ) → bit_xor (bit_xor n b) c ≡ bit_xor n (bit_xor b c))
    (λ b c. refl)
    (λ n ih b c.
    xor_step (bit_xor n b) c
    ∙ ap₂ (λ (x y : ℕ). bit_xor x (c / 2) * 2 + differ y (c % 2)) (xor_shr n b 1) (xor_mod n b 1)
    ∙ ap₂ (λ (x y : ℕ). x * 2 + y) (ih (b / 2) (c / 2)) (bits-assoc (n % 2) (b % 2) (c % 2) (bit n) (bit b) (bit c))
    ∙ sym (ap₂ (λ (x y : ℕ). bit_xor (n / 2) x * 2 + differ (n % 2) y) (xor_shr b c 1) (xor_mod b c 1))
    ∙ sym (xor_step n (bit_xor b c)))
    a

-- xor with its parts exchanged, likewise
pub xor-left-comm : (a b c : ℕ) → bit_xor a (bit_xor b c) ≡ bit_xor b (bit_xor a c)
xor-left-comm a b c = sym (xor_assoc a b c) ∙ ap (λ (x : ℕ). bit_xor x c) (xor_comm a b) ∙ xor_assoc b a c

-- the two in the middle change places
pub xor-exchange : (a b c d : ℕ) → bit_xor (bit_xor a b) (bit_xor c d) ≡ bit_xor (bit_xor a c) (bit_xor b d)
xor-exchange a b c d = xor_assoc a b (bit_xor c d) ∙ ap (bit_xor a) (xor-left-comm b c d) ∙ sym (xor_assoc a c (bit_xor b d))

-- ---- linear functions

-- f works on the xor of two numbers as on each apart.
pub record Linear (f : ℕ → ℕ) : Type 0 where
  pub apart : (a b : ℕ) → f (bit_xor a b) ≡ bit_xor (f a) (f b)

-- where two linear functions are compared, 0 comes for nothing
pub linear-zero : {f : ℕ → ℕ} → Linear f → f 0 ≡ 0
linear-zero {f} lf = lf.apart 0 0 ∙ xor_self (f 0)

-- the start of every composition
pub linear-id : Linear (λ x. x)
linear-id = record { apart = λ a b. refl }

-- the folds are put together from linear steps
pub linear-compose : {f g : ℕ → ℕ} → Linear f → Linear g → Linear (λ x. f (g x))
linear-compose {f} {g} lf lg = record { apart = λ a b. ap f (lg.apart a b) ∙ lf.apart (g a) (g b) }

-- as many shifts as a word has bits are linear
pub linear-times : (n : ℕ) {f : ℕ → ℕ} → Linear f → Linear (times n f)
unfolding times
linear-times zero lf = record { apart = λ a b. refl }
linear-times (suc n) lf = linear-compose (linear-times n lf) lf

-- a fold is a xor of moved parts
pub linear-xor : {f g : ℕ → ℕ} → Linear f → Linear g → Linear (λ x. bit_xor (f x) (g x))
linear-xor {f} {g} lf lg = record { apart = λ a b. ap₂ bit_xor (lf.apart a b) (lg.apart a b) ∙ xor-exchange (f a) (f b) (g a) (g b) }

-- `x << k`, where nothing is shifted out
pub linear-shl : (k : ℕ) → Linear (λ x. x * 2 ^ k)
linear-shl k = record { apart = λ a b. sym (simp add-zero at (xor_block k a b 0 0 (pow_pos k) (pow_pos k))) }

-- `x >> k`
pub linear-shr : (k : ℕ) → Linear (λ x. x / 2 ^ k)
linear-shr k = record { apart = λ a b. xor_shr a b k }

-- the k low bits
pub linear-low : (k : ℕ) → Linear (λ x. x % 2 ^ k)
linear-low k = record { apart = λ a b. xor_mod a b k }

bits-times : (c p q : ℕ) → p < 2 → q < 2 → bit_xor p q * c ≡ bit_xor (p * c) (q * c)
bits-times c p q hp hq =
    of-bit (λ (p : ℕ). bit_xor p q * c ≡ bit_xor (p * c) (q * c))
    (simp zero-mul)
    (of-bit (λ (q : ℕ). bit_xor 1 q * c ≡ bit_xor (1 * c) (q * c)) (simp (zero-mul, xor_zero_r)) (simp (zero-mul, xor_self)) q hq)
    p
    hp

-- c where the low bit is set, else 0
pub linear-bit : (c : ℕ) → Linear (λ x. x % 2 * c)
linear-bit c = record {
  apart = λ a b. ap (λ (x : ℕ). x * c) (xor_mod a b 1) ∙ bits-times c (a % 2) (b % 2) (bit a) (bit b);
}

sum-bit : (x y : ℕ) → (x + y) % 2 ≡ bit_xor (x % 2) (y % 2)
sum-bit x y = of-bit
    (λ (p : ℕ). x % 2 ≡ p → (x + y) % 2 ≡ bit_xor p (y % 2))
    (λ e. omega arith)
    (λ e. of-bit (λ (q : ℕ). y % 2 ≡ q → (x + y) % 2 ≡ bit_xor 1 q) (λ h. omega arith) (λ h. omega arith) (y % 2) (bit y) refl)
    (x % 2)
    (bit x)
    refl

parity-step : (n : ℕ) → ones n % 2 ≡ bit_xor (n % 2) (ones (n / 2) % 2)
parity-step n =
    let low : n % 2 % 2 ≡ n % 2 = omega arith in
    ap (λ (x : ℕ). x % 2) (ones_step n) ∙ sum-bit (n % 2) (ones (n / 2)) ∙ ap (λ (x : ℕ). bit_xor x (ones (n / 2) % 2)) low

parity-apart : (a b : ℕ) → ones (bit_xor a b) % 2 ≡ bit_xor (ones a % 2) (ones b % 2)
unfolding ones
parity-apart a =
    bin_ind (λ (n : ℕ). (b : ℕ) → ones (bit_xor n b) % 2 ≡ bit_xor (ones n % 2) (ones b % 2))
    (λ b. refl)
    (λ n ih b.
    parity-step (bit_xor n b)
    ∙ ap₂ bit_xor (xor_mod n b 1) (ap (λ (x : ℕ). ones x % 2) (xor_shr n b 1) ∙ ih (b / 2))
    ∙ xor-exchange (n % 2) (b % 2) (ones (n / 2) % 2) (ones (b / 2) % 2)
    ∙ sym (ap₂ bit_xor (parity-step n) (parity-step b)))
    a

-- c where the number of ones is odd, else 0
pub linear-parity : (c : ℕ) → Linear (λ x. ones x % 2 * c)
linear-parity c = record {
  apart = λ a b.
      ap (λ (x : ℕ). x * c) (parity-apart a b) ∙ bits-times c (ones a % 2) (ones b % 2) (bit (ones a)) (bit (ones b));
}

-- k looks count the ones of the k low bits
pub ones_in-low : (k n : ℕ) → ones_in k n ≡ ones (n % 2 ^ k)
unfolding ones ones_in
ones_in-low zero n = sym (ap ones (mod-one n))
ones_in-low (suc k) n =
    ap (λ (x : ℕ). n % 2 + x) (ones_in-low k (n / 2))
    ∙ sym (ap₂ (λ (x y : ℕ). x + ones y) (mod-mod-pow n k 1) (field n k 1))
    ∙ sym (ones_step (n % 2 ^ (k + 1)))
    ∙ ap (λ (m : ℕ). ones (n % 2 ^ m)) (add-one k)

-- the same for the k low bits, by k looks, which antt computes at a number of any size
pub linear-parity_in : (k c : ℕ) → Linear (λ x. ones_in k x % 2 * c)
linear-parity_in k c = record {
  apart = λ a b.
      rw (ones_in-low k (bit_xor a b), ones_in-low k a, ones_in-low k b) ((linear-compose (linear-parity c) (linear-low k)).apart a b);
}

-- ---- a linear function is known by what it does to the powers of two

module _ {f g : ℕ → ℕ} (lf : Linear f) (lg : Linear g) where
  agree-zero : f 0 ≡ g 0
  agree-zero = linear-zero lf ∙ sym (linear-zero lg)

  -- linear functions that agree on the powers of two agree: a fold is held to the shifts by a computed test
  pub linear-agree : (n : ℕ) → ((k : ℕ) → k < n → f (2 ^ k) ≡ g (2 ^ k)) → (x : ℕ) → x < 2 ^ n → f x ≡ g x
  linear-agree zero same x h = ap f (lt-one h) ∙ agree-zero ∙ sym (ap g (lt-one h))
  linear-agree (suc n) same x h =
      let top = x / 2 ^ n in
      let rest = x % 2 ^ n in
      let small : rest < 2 ^ n = mod-lt x (pow_pos n) in
      let parts : bit_xor (top * 2 ^ n) rest ≡ x = xor_shifted top n rest small ∙ split x n in
      let tops : f (top * 2 ^ n) ≡ g (top * 2 ^ n) =
      of-bit (λ (q : ℕ). f (q * 2 ^ n) ≡ g (q * 2 ^ n))
      (simp zero-mul agree-zero)
      (simp one-mul (same n (le_refl (suc n))))
      top
      (shr_lt 1 n (subst (λ (m : ℕ). x < 2 ^ m) (sym (one-add n)) h)) in
      let rests : f rest ≡ g rest = linear-agree n (λ k l. same k (le_step l)) rest small in
      ap f (sym parts) ∙ lf.apart (top * 2 ^ n) rest ∙ ap₂ bit_xor tops rests ∙ sym (lg.apart (top * 2 ^ n) rest) ∙ ap g parts

  -- the same from one computed test
  pub linear-agree-test : (n : ℕ) → every_below (λ k. eqb (f (2 ^ k)) (g (2 ^ k))) n ≡ true → (x : ℕ) → x < 2 ^ n → f x ≡ g x
  linear-agree-test n t =
      linear-agree n (λ k h. eqb-true (f (2 ^ k)) (g (2 ^ k)) (below (λ k. eqb (f (2 ^ k)) (g (2 ^ k))) n t k h))

-- ---- the CRC

-- the definition's own shift is one of these functions
pub linear-bit_step : Linear bit_step
unfolding bit_step
linear-bit_step = linear-xor (linear-shr 1) (linear-bit polynomial)

-- while the bits that fall out are 0, a step only brings the register down one place
pub bit_step-shifted : (q k : ℕ) → bit_step (q * 2 ^ suc k) ≡ q * 2 ^ k
unfolding bit_step
bit_step-shifted q k = simp (shifted_half, shifted_even, xor_zero_r)

-- so a multiple of 2 ^ k comes down k places
pub steps-shifted : (k q : ℕ) → times k bit_step (q * 2 ^ k) ≡ q
unfolding times
steps-shifted zero q = mul-one q
steps-shifted (suc k) q = ap (times k bit_step) (bit_step-shifted q k) ∙ steps-shifted k q

-- what stands n places up comes down as it is, beside what the n bits that fall out leave
pub steps-parts : (n q x : ℕ) → times n bit_step (bit_xor (q * 2 ^ n) x) ≡ bit_xor q (times n bit_step x)
steps-parts n q x =
    (linear-times n linear-bit_step).apart (q * 2 ^ n) x ∙ ap (λ (z : ℕ). bit_xor z (times n bit_step x)) (steps-shifted n q)
