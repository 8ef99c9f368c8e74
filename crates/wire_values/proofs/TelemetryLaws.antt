-- What follows from the definitions of specs/Telemetry.antt, for proofs alone: no contract cites it.
use mathlib.Core.Path.{◌≡◌, ◌∙◌}
use mathlib.Core.List.{List, ◌++◌, append_assoc}
use Prim.Native.Nat.{ℕ}
use native.Mathlib.Nat.{mod-eq_of_lt}
use Rattle.byte_numbers.specs.Number.{bytes_of}
use Rattle.byte_numbers.specs.Place.{number_at}
use Rattle.byte_numbers.proofs.PlaceLaws.{number_at-front, number_at-behind-bytes}
use Rattle.wire_values.specs.declared.telemetry.Telemetry.{Telemetry}
use Rattle.wire_values.specs.Telemetry.{telemetry_of, telemetry_bytes, FitsTelemetry}

-- telemetry whose numbers fit is read back from its bytes, whatever stands behind them
pub telemetry_of-bytes : (t : Telemetry) (rest : List ℕ) → FitsTelemetry t → telemetry_of (telemetry_bytes t ++ rest) ≡ t
unfolding telemetry_of telemetry_bytes
telemetry_of-bytes t rest h =
    let A = bytes_of 4 t.k in
    let B = bytes_of 2 t.ke in
    let C = bytes_of 2 t.reserve in
    let apart : A ++ (B ++ C) ++ rest ≡ A ++ (B ++ (C ++ rest)) = simp append_assoc in
    let k : number_at (A ++ (B ++ (C ++ rest))) 0 4 ≡ t.k = number_at-front 4 t.k (B ++ (C ++ rest)) ∙ mod-eq_of_lt h.k in
    let ke : number_at (A ++ (B ++ (C ++ rest))) 4 2 ≡ t.ke =
    number_at-behind-bytes 4 t.k (B ++ (C ++ rest)) 0 2 ∙ number_at-front 2 t.ke (C ++ rest) ∙ mod-eq_of_lt h.ke in
    let reserve : number_at (A ++ (B ++ (C ++ rest))) 6 2 ≡ t.reserve =
    number_at-behind-bytes 4 t.k (B ++ (C ++ rest)) 2 2 ∙ number_at-behind-bytes 2 t.ke (C ++ rest) 0 2
    ∙ number_at-front 2 t.reserve rest ∙ mod-eq_of_lt h.reserve in
    rw (apart, k, ke, reserve)
