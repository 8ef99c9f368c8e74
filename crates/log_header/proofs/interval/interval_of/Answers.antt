-- `interval_of` meets its contract: the bounds of day and slot and `exists` are `interval_of`'s tests, and two bytes' product and a byte more fit a word.
use Rattle.std.proofs.Common.{arith}
use Rattle.std.proofs.lemmas.Grind.{common_steps}
use Rattle.log_header.specs.Interval.{interval_of}
use Rattle.log_header.proofs.interval.interval_of.Goals as goal

pub returns-then-exists : goal.returns-then-exists
unfolding interval_of
returns-then-exists c = grind (arith, common_steps)

pub returns-else-day-h : goal.returns-else-day-h
unfolding interval_of
returns-else-day-h c = grind (arith, common_steps)
