-- `are_numbers` meets its contract: in the loop, the test of what is left from word `i + 1` on is the test of all.
use Rattle.std.proofs.Common.{◌≡◌, ◌+◌, drop}
use Rattle.console.specs.Form.{are_numbers}
use Rattle.console.proofs.form.are_numbers.Given as goal

abbrev pub invariant-loop-i : goal.invariant-loop-i
invariant-loop-i l = are_numbers l.line (l.i + 1) (drop l.i l.most) ≡ are_numbers l.line 1 l.most
