-- The rules of the ways to compute: both sides are linear over xor, so a test that antt computes at the powers of two shows each.
use mathlib.Core.Path.{◌≡◌, refl, sym, ap, ap₂, ◌∙◌}
use mathlib.Core.Bool.{true}
use Prim.Native.Nat.{ℕ, ◌+◌, ◌-◌, ◌*◌, ◌/◌, ◌%◌, ◌^◌, ◌<◌}
use native.Mathlib.Nat.{mod-lt, mod-eq_of_lt, lt_of_le_of_lt}
use lib.Dec.{eqb}
use lib.Pow.{pow_pos, shr_le}
use lib.Bits.{bit_xor, xor_comm, xor_lt}
use lib.Count.{ones, ones_in}
use Rattle.test_laws.proofs.Test.{every_below}
use Rattle.crc16.specs.Crc.{times, bit_step, polynomial}
use Rattle.crc16.proofs.Linear.{Linear, linear-id, linear-compose, linear-times, linear-xor, linear-shl, linear-shr, linear-low, linear-bit}
use Rattle.crc16.proofs.Linear.{linear-parity_in, ones_in-low, linear-bit_step, linear-agree-test, xor_assoc, xor-exchange}
use Rattle.crc16.specs.Word.{register, up, by_x64, by_x128, out_of_x128, below_x30, below_x15}
use Rattle.crc16.proofs.WordLaws.{linear-register, times-add, times-same}

-- ---- the computed test

-- One shift with its halves changed round, so that antt goes through A001 hex's few digits, and only where a 1 falls out.
abbrev quick : ℕ → ℕ
quick r = bit_xor (r % 2 * polynomial) (r / 2)

linear-quick : Linear quick
linear-quick = linear-xor (linear-bit polynomial) (linear-shr 1)

quick-steps : (n r : ℕ) → times n bit_step r ≡ times n quick r
unfolding bit_step
quick-steps n = times-same n bit_step quick (λ x. xor_comm (x / 2) (x % 2 * polynomial))

-- m shifts of f and n shifts of g are the same where they are at the powers of two
tested : (m n : ℕ) {f g : ℕ → ℕ} → Linear f → Linear g → (w : ℕ)
    → every_below (λ k. eqb (times m quick (f (2 ^ k))) (times n quick (g (2 ^ k)))) w ≡ true
    → (x : ℕ) → x < 2 ^ w → times m bit_step (f x) ≡ times n bit_step (g x)
tested m n {f} {g} lf lg w t x h =
    quick-steps m (f x)
    ∙ linear-agree-test (linear-compose (linear-times m linear-quick) lf) (linear-compose (linear-times n linear-quick) lg) w t x h
    ∙ sym (quick-steps n (g x))

-- ---- the ways are linear

linear-up : (k : ℕ) → Linear (up k)
linear-up k = linear-compose (linear-low 64) (linear-shl k)

linear-by_x64 : Linear by_x64
linear-by_x64 = linear-xor (linear-xor (linear-shr 19) (linear-shr 8)) (linear-shr 5)

linear-below_x30 : Linear below_x30
linear-below_x30 =
    linear-xor
    (linear-xor (linear-compose (linear-up 34) (linear-shr 34)) (linear-up 30))
    (linear-compose (linear-shr 2) (linear-up 30))

linear-below_x15 : Linear below_x15
linear-below_x15 =
    linear-xor
    (linear-xor (linear-compose (linear-up 49) (linear-shr 49)) (linear-up 15))
    (linear-compose (linear-shr 1) (linear-up 15))

-- ---- n bits more: f for the n that fall out of a, and g for the n of w that come in

module _ (n : ℕ) {f g : ℕ → ℕ} (lf : Linear f) (lg : Linear g) where
  more : every_below (λ k. eqb (times 64 quick (f (2 ^ k))) (times (n + 64) quick (2 ^ k))) 64 ≡ true
      → every_below (λ k. eqb (times 64 quick (g (2 ^ k))) (times n quick (2 ^ k))) n ≡ true
      → (a w : ℕ) → a < 2 ^ 64 → w < 2 ^ n → register (bit_xor (f a) (g w)) ≡ times n bit_step (bit_xor (register a) w)
  unfolding register
  more out into a w ha hw =
      let falls : register (f a) ≡ times n bit_step (register a) =
      tested 64 (n + 64) lf linear-id 64 out a ha ∙ times-add n 64 bit_step a in
      let comes : register (g w) ≡ times n bit_step w = tested 64 n lg linear-id n into w hw in
      linear-register.apart (f a) (g w)
      ∙ ap₂ bit_xor falls comes
      ∙ sym ((linear-times n linear-bit_step).apart (register a) w)

-- where what falls out comes in again without falling out anew
abbrev out_low : ℕ → ℕ → ℕ
out_low n a = bit_xor (a / 2 ^ n) (by_x64 (up (64 - n) a))

linear-out_low : (n : ℕ) → Linear (out_low n)
linear-out_low n = linear-xor (linear-shr n) (linear-compose linear-by_x64 (linear-up (64 - n)))

-- what `byte_more` does to the register's word is eight shifts
pub more_byte : (a b : ℕ) → a < 2 ^ 64 → b < 2 ^ 8 → register (bit_xor (out_low 8 a) (up 56 b)) ≡ times 8 bit_step (bit_xor (register a) b)
unfolding every_below times
more_byte = more 8 (linear-out_low 8) (linear-up 56) refl refl

-- what `half_more` does is 32 shifts
pub more-half : (a w : ℕ) → a < 2 ^ 64 → w < 2 ^ 32 → register (bit_xor (out_low 32 a) (up 32 w)) ≡ times 32 bit_step (bit_xor (register a) w)
unfolding every_below times
more-half = more 32 (linear-out_low 32) (linear-up 32) refl refl

-- where all of a falls out
abbrev out_word : ℕ → ℕ
out_word a = by_x64 (bit_xor (bit_xor (bit_xor a (up 45 a)) (up 56 a)) (up 59 a))

linear-out_word : Linear out_word
linear-out_word =
    linear-compose linear-by_x64 (linear-xor (linear-xor (linear-xor linear-id (linear-up 45)) (linear-up 56)) (linear-up 59))

-- what `word_more` does is 64 shifts
pub more-word : (a w : ℕ) → a < 2 ^ 64 → w < 2 ^ 64 → register (bit_xor (out_word a) w) ≡ times 64 bit_step (bit_xor (register a) w)
unfolding every_below times
more-word = more 64 linear-out_word linear-id refl refl

-- ---- 128 bits more, of two words: what falls out of the first comes into the second, and what falls out of the second into the first

linear-out : Linear out_of_x128
linear-out = linear-xor (linear-xor (linear-up 41) (linear-up 48)) (linear-up 55)

linear-by_x128 : Linear by_x128
linear-by_x128 = linear-xor (linear-xor (linear-shr 23) (linear-shr 16)) (linear-shr 9)

-- one word's part in both words after it, as a first word's and as a second's
module _ {f g : ℕ → ℕ} (lf : Linear f) (lg : Linear g) where
  part : (n : ℕ) → every_below (λ k. eqb (times 64 quick (bit_xor (times 64 quick (f (2 ^ k))) (g (2 ^ k)))) (times n quick (2 ^ k))) 64 ≡ true
      → (a : ℕ) → a < 2 ^ 64 → register (bit_xor (register (f a)) (g a)) ≡ times n bit_step a
  unfolding register
  part n t a h =
      ap (λ (x : ℕ). times 64 bit_step (bit_xor x (g a))) (quick-steps 64 (f a))
      ∙ tested 64 n (linear-xor (linear-compose (linear-times 64 linear-quick) lf) lg) linear-id 64 t a h

part-first : (a : ℕ) → a < 2 ^ 64
    → register (bit_xor (register (by_x128 a)) (by_x128 (out_of_x128 a))) ≡ register (register (register (register a)))
unfolding every_below times register
part-first a h =
    part linear-by_x128 (linear-compose linear-by_x128 linear-out) 256 refl a h
    ∙ times-add 192 64 bit_step a
    ∙ times-add 128 64 bit_step (register a)
    ∙ times-add 64 64 bit_step (register (register a))

part-second : (a : ℕ) → a < 2 ^ 64 → register (bit_xor (register (out_of_x128 a)) (by_x128 a)) ≡ register (register (register a))
unfolding every_below times register
part-second a h =
    part linear-out linear-by_x128 192 refl a h ∙ times-add 128 64 bit_step a ∙ times-add 64 64 bit_step (register a)

apart-2 : (a b : ℕ) → register (register (bit_xor a b)) ≡ bit_xor (register (register a)) (register (register b))
apart-2 a b = ap register (linear-register.apart a b) ∙ linear-register.apart (register a) (register b)

-- what `pair_more` does to two words at once is what each does in its turn
pub more-pair : (f s first second : ℕ) → f < 2 ^ 64 → s < 2 ^ 64
    → register (bit_xor (register (bit_xor (bit_xor (by_x128 f) (out_of_x128 s)) first)) (bit_xor (by_x128 (bit_xor (out_of_x128 f) s)) second))
    ≡ register (bit_xor (register (bit_xor (register (bit_xor (register f) s)) first)) second)
more-pair f s first second hf hs =
    let came = bit_xor (register first) second in
    let firsts : register (bit_xor (bit_xor (by_x128 f) (out_of_x128 s)) first)
    ≡ bit_xor (bit_xor (register (by_x128 f)) (register (out_of_x128 s))) (register first) =
    linear-register.apart (bit_xor (by_x128 f) (out_of_x128 s)) first
    ∙ ap (λ (x : ℕ). bit_xor x (register first)) (linear-register.apart (by_x128 f) (out_of_x128 s)) in
    let sorted : register
    (bit_xor
    (bit_xor (bit_xor (register (by_x128 f)) (register (out_of_x128 s))) (register first))
    (bit_xor (bit_xor (by_x128 (out_of_x128 f)) (by_x128 s)) second))
    ≡ bit_xor
    (bit_xor (register (bit_xor (register (by_x128 f)) (by_x128 (out_of_x128 f)))) (register (bit_xor (register (out_of_x128 s)) (by_x128 s))))
    (register came) =
    ap register
    (xor-exchange (bit_xor (register (by_x128 f)) (register (out_of_x128 s))) (register first) (bit_xor (by_x128 (out_of_x128 f)) (by_x128 s)) second
    ∙ ap (λ (x : ℕ). bit_xor x came) (xor-exchange (register (by_x128 f)) (register (out_of_x128 s)) (by_x128 (out_of_x128 f)) (by_x128 s)))
    ∙ linear-register.apart
    (bit_xor (bit_xor (register (by_x128 f)) (by_x128 (out_of_x128 f))) (bit_xor (register (out_of_x128 s)) (by_x128 s)))
    came
    ∙ ap (λ (x : ℕ). bit_xor x (register came))
    (linear-register.apart (bit_xor (register (by_x128 f)) (by_x128 (out_of_x128 f))) (bit_xor (register (out_of_x128 s)) (by_x128 s))) in
    let before : register (register (register (bit_xor (register f) s)))
    ≡ bit_xor (register (register (register (register f)))) (register (register (register s))) =
    ap register (apart-2 (register f) s) ∙ linear-register.apart (register (register (register f))) (register (register s)) in
    let after : register (bit_xor (register (bit_xor (register (bit_xor (register f) s)) first)) second)
    ≡ bit_xor (register (register (register (bit_xor (register f) s)))) (register came) =
    ap (λ (x : ℕ). register (bit_xor x second)) (linear-register.apart (register (bit_xor (register f) s)) first)
    ∙ ap register (xor_assoc (register (register (bit_xor (register f) s))) (register first) second)
    ∙ linear-register.apart (register (register (bit_xor (register f) s))) came in
    ap₂ (λ (x y : ℕ). register (bit_xor x (bit_xor y second))) firsts (linear-by_x128.apart (out_of_x128 f) s)
    ∙ sorted
    ∙ ap₂ (λ (x y : ℕ). bit_xor (bit_xor x y) (register came)) (part-first f hf) (part-second s hs)
    ∙ sym (after ∙ ap (λ (x : ℕ). bit_xor x (register came)) before)

-- ---- the register itself

-- a times x ^ 16, which is x ^ 2 + x, modulo Q
abbrev pub below_q : ℕ → ℕ
below_q a = below_x15 (below_x15 (bit_xor (below_x30 a / 2) (below_x30 a / 2 ^ 2)))

up_lt : (k a : ℕ) → up k a < 2 ^ 64
up_lt k a = mod-lt (a * 2 ^ k) (pow_pos 64)

below_x15-lt : (a : ℕ) → below_x15 a < 2 ^ 64
below_x15-lt a =
    xor_lt 64 (bit_xor (up 49 (a / 2 ^ 49)) (up 15 a)) (up 15 a / 2)
    (xor_lt 64 (up 49 (a / 2 ^ 49)) (up 15 a) (up_lt 49 (a / 2 ^ 49)) (up_lt 15 a))
    (lt_of_le_of_lt (shr_le (up 15 a) 1) (up_lt 15 a))

linear-below_q : Linear below_q
linear-below_q =
    linear-compose linear-below_x15
    (linear-compose linear-below_x15
    (linear-compose (linear-xor (linear-shr 1) (linear-shr 2)) linear-below_x30))

below-lt : (a : ℕ) → below_q a < 2 ^ 64
below-lt a = below_x15-lt (below_x15 (bit_xor (below_x30 a / 2) (below_x30 a / 2 ^ 2)))

settle-looks : (a : ℕ) → a < 2 ^ 64 → bit_xor (below_q a / 2 ^ 48) (ones_in 64 (bit_xor a (below_q a)) % 2 * 0xC001) ≡ register a
unfolding every_below times register ones_in
settle-looks =
    tested 0 64
    (linear-xor
    (linear-compose (linear-shr 48) linear-below_q)
    (linear-compose (linear-parity_in 64 0xC001) (linear-xor linear-id linear-below_q)))
    linear-id
    64
    refl

-- and Q is added where that makes the number of terms odd or even as a's is
pub settle : (a : ℕ) → a < 2 ^ 64 → bit_xor (below_q a / 2 ^ 48) (ones (bit_xor a (below_q a)) % 2 * 0xC001) ≡ register a
settle a h =
    let both = bit_xor a (below_q a) in
    let looks : ones_in 64 both ≡ ones both = ones_in-low 64 both ∙ ap ones (mod-eq_of_lt (xor_lt 64 a (below_q a) h (below-lt a))) in
    ap (λ (n : ℕ). bit_xor (below_q a / 2 ^ 48) (n % 2 * 0xC001)) (sym looks) ∙ settle-looks a h
