-- `seconds_later` meets its contract: in the loop, the seconds that are left lead from the record so far where all of them lead.
use Rattle.std.proofs.Common.{◌≡◌, ◌-◌}
use Rattle.console_meter.specs.SetLines.{later_by}
use Rattle.console_meter.proofs.seconds.seconds_later.Given as goal

abbrev pub invariant-loop-passed : goal.invariant-loop-passed
invariant-loop-passed l = later_by (l.n - l.passed) l.after ≡ later_by l.n l.initial.after
