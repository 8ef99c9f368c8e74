-- `cell_at` meets its contract: `cell_among` with the number of cells that the header says.
use Rattle.energy_log.specs.Image.{cell_at}
use mathlib.Core.Path.{◌∙◌}
use Rattle.energy_log.proofs.image.cell_at.Goals as goal

pub returns : goal.returns
unfolding cell_at
returns c = c.cell_among.ensures ∙ simp c.cells_at.ensures
