-- Bytes as hexadecimal text, as document 01 prints frames ("Marked examples": `01 03 24 05 11 00 53 6B`), here without the spaces; and
-- such digits read back, for the console.
use Rattle.std.specs.Prelude.{cond, List, [], ◌∷◌, ℕ, ◌+◌, ◌-◌, ◌/◌, ◌%◌, ltb, None, Option, Some}
use Rattle.text.specs.Decimal.{between}

-- the digit 0 to 9 or A to F
unfoldable pub hex_digit : ℕ → ℕ
hex_digit d = cond (ltb d 10) (48 + d) (55 + d)

-- two digits for each byte, the higher half first
unfoldable pub hex_text : List ℕ → List ℕ
hex_text [] = []
hex_text (b ∷ bs) = hex_digit (b / 16) ∷ hex_digit (b % 16) ∷ hex_text bs

-- what a digit of text stands for, a letter in either case
unfoldable pub hex_value : ℕ → Option ℕ
hex_value b =
    cond (between 48 57 b) (Some (b - 48)) (cond (between 65 70 b) (Some (b - 55)) (cond (between 97 102 b) (Some (b - 87)) None))
