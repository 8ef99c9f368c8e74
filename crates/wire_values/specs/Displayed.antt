-- Parameter 36 as function 4 reads it. Source: document 02, request 3: "For parameter 36, function 4 answers four 32-bit floats in
-- kilowatt-hours"; 002, section 4.13 (page 18), has each field as a float of four bytes.
use Rattle.std.specs.Prelude.{Bool, cond, ◌&&◌, List, ◌++◌, ℕ, None, Option, Some}
use Rattle.byte_numbers.specs.Number.{bytes_of}
use Rattle.byte_numbers.specs.Place.{number_at}
use Rattle.wire_values.specs.Power.{is_finite}
use Rattle.wire_values.specs.declared.displayed.Energies.{Energies}

-- the four floats at the front of a data part, by their bits: E+, E-, R+, R-
unfoldable pub energies_in : List ℕ → Energies
energies_in bs = record {
  e_plus = record { 0 = number_at bs 0 4 };
  e_minus = record { 0 = number_at bs 4 4 };
  r_plus = record { 0 = number_at bs 8 4 };
  r_minus = record { 0 = number_at bs 12 4 };
}

unfoldable pub are_finite : Energies → Bool
are_finite e = is_finite e.e_plus.0 && is_finite e.e_minus.0 && is_finite e.r_plus.0 && is_finite e.r_minus.0

-- "26 applies to these replies also": all of them finite, or none is handed over
unfoldable pub energies_of : List ℕ → Option Energies
unfolding are_finite
energies_of bs = cond (are_finite (energies_in bs)) (Some (energies_in bs)) None

-- their sixteen bytes
unfoldable pub energies_bytes : Energies → List ℕ
energies_bytes e =
    bytes_of 4 e.e_plus.0 ++ (bytes_of 4 e.e_minus.0 ++ (bytes_of 4 e.r_plus.0 ++ bytes_of 4 e.r_minus.0))
