-- `is_header` meets its contract: its tests are the factors of `is_header`, and the last day's date is left.
use Rattle.std.proofs.Common.{arith}
use Rattle.std.proofs.lemmas.Grind.{common_steps}
use Rattle.slots.proofs.DayLaws.{no-minutes, some-minutes}
use Rattle.log_header.specs.Header.{is_header, days_right}
use Rattle.log_header.proofs.header.is_header.Goals as goal

pub returns-then-slots_of-ne0 : goal.returns-then-slots_of-ne0
unfolding is_header days_right
returns-then-slots_of-ne0 c = grind (arith, common_steps, no-minutes, some-minutes)

pub returns-else-slots_of-ne0 : goal.returns-else-slots_of-ne0
unfolding is_header days_right
returns-else-slots_of-ne0 c = grind (arith, common_steps, no-minutes, some-minutes)
