-- The theorem: every claim of specs/Nearest.antt with its proof.
use Rattle.kilowatt_hours.specs.Nearest.{NearestFloat}
use Rattle.kilowatt_hours.proofs.BitsLaws.{bits-zero}
use Rattle.kilowatt_hours.proofs.NearestLaws.{kwh-nearest, only}
use Rattle.kilowatt_hours.proofs.RoundLaws.{bits-worth, kwh-is-round}

pub nearest-float : NearestFloat
nearest-float = record { nearest = kwh-nearest; only = only; plus_zero = bits-zero; value = bits-worth; rounded = kwh-is-round }
