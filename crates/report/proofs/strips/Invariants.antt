-- `strips` meets its contract, as `lines` does: the page stays that of what was read.
use mathlib.Core.Path.{◌≡◌}
use Rattle.report.proofs.strips.Given as goal

abbrev pub invariant-loop : goal.invariant-loop
invariant-loop l = l.page.read ≡ l.initial.page.read
