-- `lines` meets its contract: the page stays that of what was read of the file, so that each line is one of the file's.
use mathlib.Core.Path.{◌≡◌}
use Rattle.report.proofs.lines.Given as goal

abbrev pub invariant-loop : goal.invariant-loop
invariant-loop l = l.page.read ≡ l.initial.page.read
