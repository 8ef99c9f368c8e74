-- Between two days log and figures are ones that a poll may make of the first, and each day goes on from there, whichever is next.
use Rattle.std.specs.Prelude.{None}
use Rattle.polling.specs.Reached.{Reached}
use Rattle.logger.specs.Run.{state}
use Rattle.day_rows.specs.LogAndRows.{log_and_rows}
use Rattle.poll_days.proofs.days.poll.Given as goal

abbrev pub invariant-loop-turn : goal.invariant-loop-turn
invariant-loop-turn l =
    Reached (state (log_and_rows l.initial.image l.initial.figures) None) (state (log_and_rows l.image l.figures) l.course.held)
