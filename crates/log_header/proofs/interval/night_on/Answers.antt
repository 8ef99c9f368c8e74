-- `night_on` meets its contract: plain where the seasons are not followed, else the night of the calendar's answer.
use Rattle.std.proofs.Common.{arith}
use Rattle.std.proofs.lemmas.Grind.{common_steps}
use Rattle.log_header.specs.Interval.{night_on}
use Rattle.log_header.proofs.interval.night_on.Goals as goal

pub returns-then-h-ne-SEASONS_FOLLOWED : goal.returns-then-h-ne-SEASONS_FOLLOWED
unfolding night_on
returns-then-h-ne-SEASONS_FOLLOWED c = grind (arith, common_steps)

pub returns-in_default : goal.returns-in_default
unfolding night_on
returns-in_default c = grind (arith, common_steps)

pub returns : goal.returns
unfolding night_on
returns c = grind (arith, common_steps)
