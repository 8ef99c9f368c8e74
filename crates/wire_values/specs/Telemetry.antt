-- Parameter 24. Source: document 01, "Telemetry: pulses K (4 bytes), Ke (2), reserve (2, kept as written)"; 002, figure 13 (page 13).
use Rattle.std.specs.Prelude.{List, ◌++◌, ℕ, ◌^◌, ◌<◌}
use Rattle.byte_numbers.specs.Number.{bytes_of}
use Rattle.byte_numbers.specs.Place.{number_at}
use Rattle.wire_values.specs.declared.telemetry.Telemetry.{Telemetry}

-- the telemetry that stands at the front of a data part
unfoldable pub telemetry_of : List ℕ → Telemetry
telemetry_of bs = record { k = number_at bs 0 4; ke = number_at bs 4 2; reserve = number_at bs 6 2 }

-- its eight bytes
unfoldable pub telemetry_bytes : Telemetry → List ℕ
telemetry_bytes t = bytes_of 4 t.k ++ (bytes_of 2 t.ke ++ bytes_of 2 t.reserve)

-- each number fits its bytes, as those of a Rattle value do
pub record FitsTelemetry (t : Telemetry) : Type 0 where
  pub k : t.k < 2 ^ 32
  pub ke : t.ke < 2 ^ 16
  pub reserve : t.reserve < 2 ^ 16
