-- `mark_right` meets its contract: the three bytes are compared in `mark_right`'s order.
use Rattle.std.proofs.Common.{arith}
use Rattle.std.proofs.lemmas.Grind.{common_steps}
use Rattle.log_header.specs.Header.{mark_right}
use Rattle.log_header.proofs.header.mark_right.Goals as goal

pub returns-then-byte_at-eq69 : goal.returns-then-byte_at-eq69
unfolding mark_right
returns-then-byte_at-eq69 c = grind (arith, common_steps)

pub returns-else-byte_at-eq69 : goal.returns-else-byte_at-eq69
unfolding mark_right
returns-else-byte_at-eq69 c = grind (arith, common_steps)
