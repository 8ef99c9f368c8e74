-- `cells_of` meets its contract: the product of days and slots is `cells_of`'s own, and two bytes' product fits.
use Rattle.log_header.specs.Header.{cells_of}
use Rattle.log_header.proofs.header.cells_of.Goals as goal

pub returns : goal.returns
unfolding cells_of
returns c = simp c.slots_of-slots.ensures
