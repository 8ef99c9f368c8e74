-- What follows from the definitions of specs/Crc.antt, for proofs alone: no contract cites it.
use mathlib.Core.Path.{◌≡◌, refl}
use mathlib.Core.List.{List, [], ◌∷◌, ◌++◌}
use Prim.Native.Nat.{ℕ, zero, suc, ◌*◌, ◌/◌, ◌%◌, ◌^◌, ◌<◌}
use native.Mathlib.Nat.{lt_of_lt_of_le}
use native.Mathlib.Omega.{arith}
use lib.Dec.{lit<, lit≤}
use lib.Bits.{bit_xor, xor_lt}
use Rattle.byte_numbers.specs.Number.{Bytes}
use Rattle.crc16.specs.Crc.{start, polynomial, bit_step, times, eight_bits, byte_step, crc_from, crc_of}

-- ---- laws

-- a frame in two parts: the second goes on from the first one's register
pub crc_from-append : (r : ℕ) (xs ys : List ℕ) → crc_from r (xs ++ ys) ≡ crc_from (crc_from r xs) ys
unfolding crc_from
crc_from-append r [] ys = refl
crc_from-append r (x ∷ xs) ys = crc_from-append (byte_step r x) xs ys

-- a shift stays within 16 bits, for `byte_step-lt`
pub bit_step-lt : (r : ℕ) → r < 2 ^ 16 → bit_step r < 2 ^ 16
unfolding bit_step
bit_step-lt r h = xor_lt 16 (r / 2) (r % 2 * polynomial) (omega arith) (omega arith)

-- a bound that each step keeps, many steps keep
pub times-lt : (n : ℕ) (f : ℕ → ℕ) (m : ℕ) → ((x : ℕ) → x < m → f x < m) → (r : ℕ) → r < m → times n f r < m
unfolding times
times-lt zero f m kept r h = h
times-lt (suc n) f m kept r h = times-lt n f m kept (f r) (kept r h)

-- a byte's shifts stay within 16 bits, for `crc_from-lt`
pub byte_step-lt : (r b : ℕ) → r < 2 ^ 16 → b < 256 → byte_step r b < 2 ^ 16
unfolding byte_step eight_bits
byte_step-lt r b h hb = times-lt 8 bit_step (2 ^ 16) bit_step-lt (bit_xor r b) (xor_lt 16 r b h (lt_of_lt_of_le hb (lit≤ tt)))

-- the register stays in 16 bits
pub crc_from-lt : (r : ℕ) (bytes : List ℕ) → r < 2 ^ 16 → Bytes bytes → crc_from r bytes < 2 ^ 16
unfolding crc_from
crc_from-lt r [] h hs = h
crc_from-lt r (b ∷ bs) h hs = crc_from-lt (byte_step r b) bs (byte_step-lt r b h (hs 0)) (λ i. hs (suc i))

-- a CRC fits the two bytes in which a frame carries it
pub crc_of-lt : (bytes : List ℕ) → Bytes bytes → crc_of bytes < 2 ^ 16
unfolding crc_of
crc_of-lt bytes hs = crc_from-lt start bytes (lit< tt) hs
