-- `cells_at` meets its contract: days and minutes are `header_at`'s, and the product of two bytes fits.
use Rattle.energy_log.specs.Image.{cells_at}
use Rattle.log_header.specs.Header.{cells_of, header_at}
use Rattle.energy_log.proofs.image.cells_at.Goals as goal

pub returns : goal.returns
unfolding cells_at cells_of header_at
returns c = simp (c.byte_at-days.ensures, c.slots_of-slots.ensures, c.byte_at.ensures)
