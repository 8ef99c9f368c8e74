-- `carried` meets its contract: the loop keeps that the days before month `at` and those left are the days asked for; it ends as the months run out.
use Prim.Native.Nat.{◌+◌}
use mathlib.Core.Path.{◌≡◌}
use Rattle.calendar.specs.Date.{days_before}
use Rattle.calendar.proofs.date.carried.Given as goal

abbrev pub invariant-loop-at : goal.invariant-loop-at
invariant-loop-at l = days_before l.at + l.left ≡ days_before l.month + l.days
