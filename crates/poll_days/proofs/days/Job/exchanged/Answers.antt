-- A device that failed has left log and ask as they were.
use Rattle.polling.proofs.ReachedLaws.{stays}
use Rattle.poll_days.proofs.days.Job.exchanged.Goals as goal

pub returns-in_default : goal.returns-in_default
returns-in_default c = rw c.holding.ensures (stays _)
