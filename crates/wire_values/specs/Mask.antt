-- Parameter 35. Source: document 01, "Display mask: 4 + 1 + 1 bytes"; 002, figure 16 (page 17).
use Rattle.std.specs.Prelude.{List, [], ◌∷◌, ◌++◌, ℕ}
use Rattle.byte_numbers.specs.Number.{bytes_of}
use Rattle.byte_numbers.specs.Place.{byte_at, number_at}
use Rattle.wire_values.specs.declared.mask.DisplayMask.{DisplayMask}

-- the mask that stands at the front of a data part
unfoldable pub mask_of : List ℕ → DisplayMask
mask_of bs = record { parameters = number_at bs 0 4; tariffs = byte_at bs 4; directions = byte_at bs 5 }

-- its six bytes
unfoldable pub mask_bytes : DisplayMask → List ℕ
mask_bytes m = bytes_of 4 m.parameters ++ (m.tariffs ∷ m.directions ∷ [])
