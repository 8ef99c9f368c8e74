-- What follows from the definitions of specs/Hex.antt, for proofs alone: no contract cites it.
use mathlib.Core.Path.{◌≡◌}
use mathlib.Core.List.{List, [], ◌∷◌}
use mathlib.Core.Logic.{◌⊎◌}
use Prim.Native.Nat.{ℕ, ◌+◌, ◌-◌, ◌/◌, ◌%◌, ◌≤◌, ◌<◌}
use native.Mathlib.Numerals.{add-one, add-two}
use Rattle.byte_numbers.specs.Place.{written}
use Rattle.text.specs.Hex.{hex_digit, hex_text}

-- ---- a byte's two digits, written one after the other

-- the two stores of `put_hex` for a byte go in front of the rest
pub written-hex : (s : List ℕ) (i b : ℕ) (bs : List ℕ)
    → written (written (written s i (hex_digit (b / 16) ∷ [])) (i + 1) (hex_digit (b % 16) ∷ [])) (i + 2) (hex_text bs) ≡ written s i (hex_text (b ∷ bs))
unfolding hex_text written
written-hex s i b bs = rw (add-one, add-two)
