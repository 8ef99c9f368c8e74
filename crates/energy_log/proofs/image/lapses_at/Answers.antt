-- `lapses_at` meets its contract: `lapses_among` with the number of cells that the header says.
use Rattle.energy_log.specs.Image.{lapses_at}
use mathlib.Core.Path.{◌∙◌}
use Rattle.energy_log.proofs.image.lapses_at.Goals as goal

pub returns : goal.returns
unfolding lapses_at
returns c = c.lapses_among.ensures ∙ simp c.cells_at.ensures
