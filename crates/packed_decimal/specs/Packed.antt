-- Packed decimal. Source: document 02, CR 1: "four bytes each of packed decimal", "41 a half-byte above 9"; 000, its command 27 hex: the bytes
-- 00 02 27 50 are 22,750 tens of watt-hours (227.5 kWh).
use Rattle.std.specs.Prelude.{Bool, true, cond, ◌&&◌, List, [], ◌∷◌, ◌++◌, ℕ, zero, suc, ◌+◌, ◌*◌, ◌/◌, ◌%◌, leb, length, take, drop, None, Option, Some}

-- ---- written

-- the byte of the last two digits of n, the higher one in the high half
abbrev pub pair_of : ℕ → ℕ
pair_of n = n / 10 % 10 * 16 + n % 10

-- the last 2k digits of n in k bytes, the high ones first
unfoldable pub packed_of : ℕ → ℕ → List ℕ
packed_of zero n = []
packed_of (suc k) n = packed_of k (n / 100) ++ (pair_of (n % 100) ∷ [])

-- ---- read

-- both halves of a byte are digits
abbrev pub is_pair : ℕ → Bool
is_pair b = leb (b / 16) 9 && leb (b % 16) 9

-- every half-byte is a digit
unfoldable pub is_packed : List ℕ → Bool
is_packed [] = true
is_packed (b ∷ bs) = is_pair b && is_packed bs

-- the digits of the bytes behind those of n
unfoldable pub value_from : ℕ → List ℕ → ℕ
value_from n [] = n
value_from n (b ∷ bs) = value_from (n * 100 + (b / 16 * 10 + b % 16)) bs

abbrev pub value_of : List ℕ → ℕ
value_of bs = value_from 0 bs

-- what the bytes are; four bytes have eight digits, the most that a number of 32 bits is sure to hold
unfoldable pub decimal_of : List ℕ → Option ℕ
decimal_of bs = cond (leb (length bs) 4 && is_packed bs) (Some (value_of bs)) None

-- the same of k bytes from place i on
abbrev pub decimal_at : List ℕ → ℕ → ℕ → Option ℕ
decimal_at s i k = decimal_of (take k (drop i s))
