-- Between two turns log and figures are ones that a poll may make of the first, and each ask goes on from there; the next slot passes more of the day.
use Rattle.std.proofs.Common.{◌-◌}
use Rattle.polling.specs.Reached.{Reached}
use Rattle.logger.specs.Run.{state}
use Rattle.day_rows.specs.LogAndRows.{log_and_rows}
use Rattle.slots.proofs.DayLaws.{slots_most}
use Rattle.poll_days.proofs.days.Job.asks.Given as goal

abbrev pub invariant-loop-slot : goal.invariant-loop-slot
invariant-loop-slot l =
    Reached (state (log_and_rows l.initial.image l.initial.figures) l.initial.course.held) (state (log_and_rows l.image l.figures) l.course.held)

abbrev pub decreases-loop-slot : goal.decreases-loop-slot
decreases-loop-slot l = slots_most - l.passed
