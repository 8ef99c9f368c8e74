-- `is_sound` meets its contract: mark, version, zero byte, fields and length are its tests.
use Rattle.std.proofs.Common.{arith}
use Rattle.std.proofs.lemmas.Grind.{common_steps}
use Rattle.log_header.specs.Header.{fields_right}
use Rattle.log_header.proofs.header.is_sound.Goals as goal

pub returns-then-is_header : goal.returns-then-is_header
unfolding fields_right
returns-then-is_header c = grind (arith, common_steps)

pub returns-else-is_header : goal.returns-else-is_header
unfolding fields_right
returns-else-is_header c = grind (arith, common_steps)
