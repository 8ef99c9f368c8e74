-- Numbers as decimal text, in ASCII. Source: document 01, "Marked examples": the day report's line `2024-05-17 46 1 1 12 0 3 0`, whose
-- numbers have no leading zeros, and whose date has.
use Rattle.std.specs.Prelude.{Bool, true, false, ◌&&◌, List, [], ◌∷◌, ◌++◌, ℕ, zero, suc, ◌+◌, ◌-◌, ◌*◌, ◌/◌, ◌%◌, ltb, leb}

-- the digit 0 to 9
abbrev pub digit : ℕ → ℕ
digit d = 48 + d

-- a number's digits, the highest first: one below ten is its only digit, any other has those of its tenth and behind them its last.
-- The first argument ends the recursion, and is never used up where it starts as the number
unfoldable pub digits : ℕ → Bool → ℕ → List ℕ
digits zero small n = digit n ∷ []
digits (suc k) true n = digit n ∷ []
digits (suc k) false n = digits k (ltb (n / 10) 10) (n / 10) ++ (digit (n % 10) ∷ [])

-- a number's digits, without leading zeros
unfoldable pub decimal : ℕ → List ℕ
decimal n = digits n (ltb n 10) n

-- the lowest k digits of a number, with leading zeros
unfoldable pub padded : ℕ → ℕ → List ℕ
padded zero n = []
padded (suc k) n = padded k (n / 10) ++ (digit (n % 10) ∷ [])

-- the number that the digits ds are, read behind those of a
unfoldable pub value_from : ℕ → List ℕ → ℕ
value_from a [] = a
value_from a (d ∷ ds) = value_from (a * 10 + (d - 48)) ds

-- the number that digits are
abbrev pub value_of : List ℕ → ℕ
value_of ds = value_from 0 ds

-- whether a byte is one of those from low to high
abbrev pub between : ℕ → ℕ → ℕ → Bool
between low high b = leb low b && leb b high

-- whether a byte is a digit
unfoldable pub is_digit : ℕ → Bool
is_digit b = between 48 57 b

-- whether each byte is a digit
unfoldable pub are_digits : List ℕ → Bool
are_digits [] = true
are_digits (b ∷ bs) = is_digit b && are_digits bs
