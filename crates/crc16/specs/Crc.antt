-- The Modbus serial line CRC-16, bit by bit, as document 01 has it under "Frames": "The CRC covers all bytes before it; it starts at
-- FFFF hex and uses A001 hex, bits low first".
use Rattle.std.specs.Prelude.{List, [], ◌∷◌, ℕ, zero, suc, ◌*◌, ◌/◌, ◌%◌}
use Rattle.std.specs.Int.Bits.{bit_xor}

-- What the register starts at: "it starts at FFFF hex".
abbrev pub start : ℕ
start = 0xFFFF

-- What is xored in: "uses A001 hex", the standard's polynomial with its bits turned round, since the low bit goes first.
abbrev pub polynomial : ℕ
polynomial = 0xA001

-- One bit, the standard's shift: the register comes down one place, and where the bit that falls out is 1 it is xored with A001 hex.
unfoldable pub bit_step : ℕ → ℕ
bit_step r = bit_xor (r / 2) (r % 2 * polynomial)

-- f done n times, one after the other.
unfoldable pub times : ℕ → (ℕ → ℕ) → ℕ → ℕ
times zero f r = r
times (suc n) f r = times n f (f r)

-- The eight bits of a byte, "bits low first": the standard's eight shifts.
unfoldable pub eight_bits : ℕ → ℕ
eight_bits r = times 8 bit_step r

-- One byte, as the standard has it: the byte is xored into the register's low half, and eight bits are shifted out.
unfoldable pub byte_step : ℕ → ℕ → ℕ
byte_step r b = eight_bits (bit_xor r b)

-- All bytes one after the other, from the register r: the standard's loop over the frame.
unfoldable pub crc_from : ℕ → List ℕ → ℕ
crc_from r [] = r
crc_from r (b ∷ bs) = crc_from (byte_step r b) bs

-- The CRC: it "covers all bytes before it", and travels low byte first.
unfoldable pub crc_of : List ℕ → ℕ
crc_of bytes = crc_from start bytes
