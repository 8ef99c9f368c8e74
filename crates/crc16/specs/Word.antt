-- The CRC by numbers of several bytes. Sixty-four bits stand for the register that is left when they are all shifted out, so a register has
-- many that stand for it, and the code goes from any of the one to any of the next. Document 01 asks for no particular way.
use Rattle.std.specs.Prelude.{ℕ, ◌*◌, ◌/◌, ◌%◌, ◌^◌}
use Rattle.std.specs.Int.Bits.{bit_xor}
use Rattle.crc16.specs.Crc.{times, bit_step}

-- The register that 64 bits stand for: what is left of them after 64 shifts.
unfoldable pub register : ℕ → ℕ
register a = times 64 bit_step a

-- The register that two words stand for, one behind the other.
abbrev pub pair_register : ℕ → ℕ → ℕ
pair_register first second = register (bit_xor (register first) second)

-- ---- ways to compute. As a polynomial, bit i of 64 is x ^ (63 - i), and a shift is a product with x modulo (x + 1) Q, where Q is
-- x ^ 15 + x + 1.

-- a << k in 64 bits
abbrev pub up : ℕ → ℕ → ℕ
up k a = a * 2 ^ k % 2 ^ 64

-- z times x ^ 64, which is x ^ 19 + x ^ 8 + x ^ 5, where nothing falls out
abbrev pub by_x64 : ℕ → ℕ
by_x64 z = bit_xor (bit_xor (z / 2 ^ 19) (z / 2 ^ 8)) (z / 2 ^ 5)

-- and x ^ 128 is x ^ 23 + x ^ 16 + x ^ 9
abbrev pub by_x128 : ℕ → ℕ
by_x128 z = bit_xor (bit_xor (z / 2 ^ 23) (z / 2 ^ 16)) (z / 2 ^ 9)

-- and what of it falls out
abbrev pub out_of_x128 : ℕ → ℕ
out_of_x128 z = bit_xor (bit_xor (up 41 z) (up 48 z)) (up 55 z)

-- modulo Q, x ^ 30 is x ^ 2 + 1
abbrev pub below_x30 : ℕ → ℕ
below_x30 a = bit_xor (bit_xor (up 34 (a / 2 ^ 34)) (up 30 a)) (up 30 a / 2 ^ 2)

-- modulo Q, x ^ 15 is x + 1
abbrev pub below_x15 : ℕ → ℕ
below_x15 a = bit_xor (bit_xor (up 49 (a / 2 ^ 49)) (up 15 a)) (up 15 a / 2)
