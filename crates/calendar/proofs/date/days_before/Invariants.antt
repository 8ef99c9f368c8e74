-- `days_before` meets its contract: the loop keeps that `days` are those before month `at`; a century's days fit.
use mathlib.Core.Path.{◌≡◌}
use Rattle.calendar.specs.Date.{days_before}
use Rattle.calendar.proofs.date.days_before.Given as goal

abbrev pub invariant-loop-at : goal.invariant-loop-at
invariant-loop-at l = l.days ≡ days_before l.at
