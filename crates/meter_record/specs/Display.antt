-- What the display shows. Source: document 01, "Display mask": "What is shown always includes parameters 1 and 32 and direction E+; bit 0 is
-- number 1 (house)"; 002, section 4.12 (page 17).
use Rattle.std.specs.Prelude.{Bool, cond, ℕ, ◌+◌, ◌/◌, ◌%◌, ◌^◌, eqb}
use Rattle.wire_values.specs.declared.mask.DisplayMask.{DisplayMask}

-- "bit 0 is number 1"
unfoldable pub is_bit : ℕ → ℕ → Bool
is_bit mask k = eqb (mask / 2 ^ k % 2) 1

-- the mask with bit k set
unfoldable pub with_bit : ℕ → ℕ → ℕ
unfolding is_bit
with_bit mask k = cond (is_bit mask k) mask (mask + 2 ^ k)

-- "What is shown always includes parameters 1 and 32 and direction E+"
unfoldable pub shown_of : DisplayMask → DisplayMask
unfolding with_bit
shown_of m = record { parameters = with_bit (with_bit m.parameters 0) 31; tariffs = m.tariffs; directions = with_bit m.directions 0 }
