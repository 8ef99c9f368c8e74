-- What follows from the definitions of specs/Number.antt, for proofs alone: no contract cites it.
use mathlib.Core.Path.{◌≡◌, refl, sym, ap, ap₂, ◌∙◌}
use mathlib.Core.List.{List, [], ◌∷◌, ◌++◌}
use Prim.Native.Nat.{ℕ, zero, suc, ◌+◌, ◌*◌, ◌/◌, ◌%◌, ◌^◌, ◌<◌}
use native.Mathlib.Nat.{pow-suc, pow-zero, mod-one, mod-lt, zero-lt-suc, mod-eq_of_lt, zero-add, suc-add, div-one, mul_comm, div-div-eq-div-mul}
use native.Mathlib.Omega.{arith}
use lib.ListN.{length, take, drop}
use lib.Seq.{take-nil}
use lib.Arith.{mod-mul, digits_div, digits_mod}
use Rattle.byte_numbers.specs.Number.{number, bytes_of, Bytes}

-- ---- there and back, over the width

-- how much room a number takes, wherever numbers are put one behind the other
pub length-bytes_of : (k n : ℕ) → length (bytes_of k n) ≡ k
unfolding bytes_of
length-bytes_of zero n = refl
length-bytes_of (suc k) n = ap suc (length-bytes_of k (n / 256))

pow-256-pos : (k : ℕ) → 0 < 256 ^ k
pow-256-pos zero = rw pow-zero (zero-lt-suc 0)
pow-256-pos (suc k) = rw pow-suc (omega (arith, pow-256-pos k))

-- what k bytes keep of a number is its remainder by 256 ^ k
pub number-bytes_of : (k n : ℕ) → number (bytes_of k n) ≡ n % 256 ^ k
unfolding number bytes_of
number-bytes_of zero n = rw pow-zero (sym (mod-one n))
number-bytes_of (suc k) n =
    ap (λ (x : ℕ). x * 256 + n % 256) (number-bytes_of k (n / 256))
    ∙ sym (rw pow-suc (mod-mul n (pow-256-pos k) (zero-lt-suc 255)))

-- a number that its width holds reads back whole: a frame's CRC, an address
pub number-bytes_of-fits : (k n : ℕ) → n < 256 ^ k → number (bytes_of k n) ≡ n
number-bytes_of-fits k n h = number-bytes_of k n ∙ mod-eq_of_lt h

-- bytes that were read as a number are put as they stood
pub bytes_of-number : (bs : List ℕ) → Bytes bs → bytes_of (length bs) (number bs) ≡ bs
unfolding number bytes_of
bytes_of-number [] h = refl
bytes_of-number (b ∷ bs) h =
    ap₂ (λ (x : ℕ) (y : List ℕ). x ∷ y)
    (digits_mod (number bs) (h 0))
    (ap (bytes_of (length bs)) (digits_div (number bs) (h 0)) ∙ bytes_of-number bs (λ i. h (suc i)))

-- what is put of a number are bytes, for laws that ask for bytes
pub bytes-bytes_of : (k n : ℕ) → Bytes (bytes_of k n)
unfolding bytes_of
bytes-bytes_of zero n i = zero-lt-suc 255
bytes-bytes_of (suc k) n zero = mod-lt n (zero-lt-suc 255)
bytes-bytes_of (suc k) n (suc i) = bytes-bytes_of k (n / 256) i

-- one byte as a number of width 1: `put_u16` puts its halves so
pub bytes_of-one : (b : ℕ) → b < 256 → bytes_of 1 b ≡ b ∷ []
unfolding bytes_of
bytes_of-one b h = rw (mod-eq_of_lt h)

-- what a number has above its k lowest bytes does not show in them
pub bytes_of-low : (k n : ℕ) → bytes_of k (n % 256 ^ k) ≡ bytes_of k n
bytes_of-low k n =
    ap₂ bytes_of (sym (length-bytes_of k n)) (sym (number-bytes_of k n)) ∙ bytes_of-number (bytes_of k n) (bytes-bytes_of k n)

-- ---- a number of j + k bytes is one of j bytes and, above it, one of k

-- a wide number put as two narrower ones
pub bytes_of-split : (j k n : ℕ) → bytes_of (j + k) n ≡ bytes_of j n ++ bytes_of k (n / 256 ^ j)
unfolding bytes_of
bytes_of-split zero k n = rw (zero-add, div-one)
bytes_of-split (suc j) k n =
    rw (suc-add, pow-suc, mul_comm (256 ^ j) 256, ← div-div-eq-div-mul)
    (ap (λ (l : List ℕ). n % 256 ∷ l) (bytes_of-split j k (n / 256)))

-- a wide number read as two narrower ones
pub number-split : (j k : ℕ) (l : List ℕ) → number (take (j + k) l) ≡ number (take k (drop j l)) * 256 ^ j + number (take j l)
unfolding number
number-split zero k l = rw (zero-add, pow-zero) (omega arith)
number-split (suc j) k [] = rw (suc-add, take-nil {A = ℕ} k) (omega arith)
number-split (suc j) k (x ∷ l) = rw (suc-add, pow-suc) (omega (arith, number-split j k l))
