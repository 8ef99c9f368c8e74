-- What follows from the definitions of specs/Mask.antt, for proofs alone: no contract cites it.
use mathlib.Core.Path.{◌≡◌, ◌∙◌}
use mathlib.Core.List.{List, ◌∷◌, ◌++◌}
use Prim.Native.Nat.{ℕ, ◌^◌, ◌<◌}
use native.Mathlib.Nat.{mod-eq_of_lt}
use Rattle.byte_numbers.specs.Number.{bytes_of}
use Rattle.byte_numbers.specs.Place.{number_at}
use Rattle.byte_numbers.proofs.PlaceLaws.{number_at-front}
use Rattle.wire_values.specs.declared.mask.DisplayMask.{DisplayMask}
use Rattle.wire_values.specs.Mask.{mask_of, mask_bytes}

-- a display mask is read back from its bytes, where its parameters fit four
pub mask_of-bytes : (m : DisplayMask) (rest : List ℕ) → m.parameters < 2 ^ 32 → mask_of (mask_bytes m ++ rest) ≡ m
unfolding mask_of mask_bytes bytes_of
mask_of-bytes m rest h =
    let parameters : number_at (bytes_of 4 m.parameters ++ (m.tariffs ∷ m.directions ∷ rest)) 0 4 ≡ m.parameters =
    number_at-front 4 m.parameters (m.tariffs ∷ m.directions ∷ rest) ∙ mod-eq_of_lt h in
    rw parameters
