-- An interval that is passed over leaves log and ask as they were.
use Rattle.polling.proofs.ReachedLaws.{stays}
use Rattle.poll_days.proofs.days.Job.one_slot.Goals as goal

pub returns-in_default : goal.returns-in_default
returns-in_default c = rw c.passed_over.ensures (stays _)
