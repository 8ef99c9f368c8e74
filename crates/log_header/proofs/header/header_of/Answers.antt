-- `header_of` meets its contract: the zero byte and `is_header` of the fields are `header_of`'s tests.
use Rattle.std.proofs.Common.{arith}
use Rattle.std.proofs.lemmas.Grind.{common_steps}
use Rattle.log_header.specs.Header.{header_of, fields_right}
use Rattle.log_header.proofs.header.header_of.Goals as goal

pub returns-then-is_header : goal.returns-then-is_header
unfolding header_of fields_right
returns-then-is_header c = grind (arith, common_steps)

pub returns-else-byte_at-eq0 : goal.returns-else-byte_at-eq0
unfolding header_of fields_right
returns-else-byte_at-eq0 c = grind (arith, common_steps)
