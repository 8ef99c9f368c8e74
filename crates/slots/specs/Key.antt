-- The key of a slice. Source: document 01, "Slices": "month 1..12, day 1..31, number 0..47 (30 minutes) or 0..95 (15 minutes)", "30 February
-- is a legal key".
use Rattle.std.specs.Prelude.{Bool, ◌&&◌, ℕ, leb, ltb}
use Rattle.slots.specs.declared.key.Key.{Key}

-- whether a key is legal where a day has so many slots
unfoldable pub is_legal : Key → ℕ → Bool
is_legal k slots = leb 1 k.month && leb k.month 12 && leb 1 k.day && leb k.day 31 && ltb k.number slots
