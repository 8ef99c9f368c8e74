-- What it is to be the nearest float, over whole numbers. Source: document 02, CR 3: "The float must be the one nearest to that fraction, ties
-- to even, zero as plus zero; say it over whole numbers." A float of 32 bits (IEEE 754, binary32) has from its top a sign, 8 bits of exponent and
-- 23 digits; every finite one is a whole number of steps of 2 ^ -149, and the even one of two neighbours is the one whose last bit is 0.
use Rattle.std.specs.Prelude.{◌≡◌, ℕ, zero, suc, ◌+◌, ◌-◌, ◌*◌, ◌/◌, ◌%◌, ◌^◌, ◌≤◌, ◌<◌, false}
use Rattle.std.specs.Float.{binary32}
use Rattle.std.specs.Float.Ieee.{of_bits, round, to_bits}
use Rattle.std.specs.Float.Ieee.Exact.{HasValue}
use Rattle.kilowatt_hours.specs.Bits.{kwh_bits}

-- the bits of plus infinity: those below are the finite floats that are not negative
abbrev pub infinity : ℕ
infinity = 0x7F800000

-- the steps of an exponent x with the digits t: with the exponent 0 the digits alone; else a one stands before them
unfoldable pub steps : ℕ → ℕ → ℕ
steps zero t = t
steps (suc x) t = (2 ^ 23 + t) * 2 ^ x

-- the steps of a float that is not negative, by its bits
unfoldable pub worth : ℕ → ℕ
unfolding steps
worth b = steps (b / 2 ^ 23) (b % 2 ^ 23)

-- how far apart two numbers are
abbrev pub apart : ℕ → ℕ → ℕ
apart a b = (a - b) + (b - a)

-- how far the float b, worth b / 2 ^ 149, is from n / 1,000,000: both times 1,000,000 * 2 ^ 149
abbrev pub off : ℕ → ℕ → ℕ
off n b = apart (worth b * 1000000) (n * 2 ^ 149)

-- r is a finite float, not negative and so no minus zero; no finite float is nearer, be it plus or minus b; and where another is as near, r is the even one
pub record Nearest (n r : ℕ) : Type 0 where
  pub finite : r < infinity
  pub nearest : (b : ℕ) → b < infinity → off n r ≤ off n b
  pub negative : (b : ℕ) → b < infinity → off n r ≤ worth b * 1000000 + n * 2 ^ 149
  pub even : (b : ℕ) → b < infinity → off n b ≡ off n r → (b ≡ r → ⊥) → r % 2 ≡ 0

-- What is claimed of `kwh_bits`, for every n of 64 bits.
pub record NearestFloat : Type 0 where
  pub nearest : (n : ℕ) → n < 2 ^ 64 → Nearest n (kwh_bits n)
  -- and it is the only one
  pub only : (n r s : ℕ) → Nearest n r → Nearest n s → r ≡ s
  pub plus_zero : kwh_bits 0 ≡ 0
  -- `worth` counts the steps of the float that has these bits, as the kit reads them; and `kwh_bits` has the bits of the kit's own rounding
  pub value : (b : ℕ) → b < infinity → HasValue (of_bits binary32 b) false (worth b) (2 ^ 149)
  pub rounded : (n : ℕ) → n < 2 ^ 64 → kwh_bits n ≡ to_bits binary32 (round binary32 false n 1000000)
