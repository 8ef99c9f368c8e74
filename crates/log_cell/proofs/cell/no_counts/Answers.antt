-- `no_counts` meets its contract: the first count above zero makes `no_counts` false; past three zeros the last one decides.
use Rattle.std.proofs.Common.{arith}
use Rattle.std.proofs.lemmas.Grind.{common_steps}
use Rattle.log_cell.specs.Cell.{no_counts}
use Rattle.log_cell.proofs.cell.no_counts.Goals as goal

pub returns-then-rp-eq0 : goal.returns-then-rp-eq0
unfolding no_counts
returns-then-rp-eq0 c = grind (arith, common_steps)

pub returns-else-rp-eq0 : goal.returns-else-rp-eq0
unfolding no_counts
returns-else-rp-eq0 c = grind (arith, common_steps)
