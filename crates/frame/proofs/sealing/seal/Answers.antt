-- `seal` meets its contract: where n is past the end nothing is written.
use mathlib.Core.Path.{sym}
use Rattle.byte_numbers.proofs.PlaceLaws.{written-past}
use Rattle.frame.specs.Sealing.{sealed}
use Rattle.frame.proofs.sealing.seal.Goals as goal

pub returns-else-n-out : goal.returns-else-n-out
unfolding sealed
returns-else-n-out c = sym (written-past _ _ _ c.if-n-out.false)
