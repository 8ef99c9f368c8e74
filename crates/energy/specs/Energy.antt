-- Register counts and energy. Source: document 01, "Telemetry": "Ke is at least 1, in milliwatt-hours a count. Register counts and
-- milliwatt-hours are kept apart: energy of N counts is N x Ke milliwatt-hours."
use Rattle.std.specs.Prelude.{ℕ, ◌*◌}
use Rattle.energy.specs.declared.Counts.{Counts}
use Rattle.energy.specs.declared.MilliwattHours.{MilliwattHours}

-- energy of N counts is N x Ke milliwatt-hours
abbrev pub energy_of : Counts → ℕ → MilliwattHours
energy_of n ke = record { 0 = n.0 * ke }
