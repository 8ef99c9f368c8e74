-- Between two days log and figures are ones that a poll may make of the first, and each day goes on from there, whichever is next.
use Rattle.polling.proofs.ReachedLaws.{stays, onward}
use Rattle.poll_days.proofs.days.poll.Goals as goal

pub loop-turn-init : goal.loop-turn-init
loop-turn-init c = rw c.nothing-course.ensures (stays _)

pub returns-then-ne : goal.returns-then-ne
returns-then-ne c = record { held = c.one_day-course.result.held; reached = onward c.loop-turn.invariant c.one_day-course.ensures }

pub loop-turn-preserved : goal.loop-turn-preserved
loop-turn-preserved c = onward c.loop-turn.invariant c.one_day-course.ensures

pub returns : goal.returns
returns c = record { held = c.loop-turn.course.held; reached = c.loop-turn.invariant }
