-- What follows from the definitions of specs/Clock.antt, for proofs alone: no contract cites it.
use mathlib.Core.Path.{◌≡◌, refl}
use mathlib.Core.List.{List, ◌++◌}
use Prim.Native.Nat.{ℕ}
use Rattle.calendar.specs.declared.time.DateTime.{DateTime}
use Rattle.wire_values.specs.Clock.{date_time_of, date_time_bytes}

-- a date and time is read back from its bytes, whatever stands behind them
pub date_time_of-bytes : (t : DateTime) (rest : List ℕ) → date_time_of (date_time_bytes t ++ rest) ≡ t
unfolding date_time_of date_time_bytes
date_time_of-bytes t rest = refl
