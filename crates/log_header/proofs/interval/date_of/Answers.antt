-- `date_of` meets its contract: the day's bound and the calendar's answer are the cases of `day_date`.
use Rattle.std.proofs.Common.{arith}
use Rattle.std.proofs.lemmas.Grind.{common_steps}
use Rattle.log_header.specs.Interval.{day_date}
use Rattle.log_header.proofs.interval.date_of.Goals as goal

pub returns-then-h-day : goal.returns-then-h-day
unfolding day_date
returns-then-h-day c = grind (arith, common_steps)

pub returns : goal.returns
unfolding day_date
returns c = grind (arith, common_steps)
