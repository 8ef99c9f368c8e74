-- `version_right` meets its contract: the number read is the one that `version_right` compares.
use Rattle.log_header.specs.Header.{version_right}
use Rattle.log_header.proofs.header.version_right.Goals as goal

pub returns : goal.returns
unfolding version_right
returns c = simp c.version_at.ensures
