-- `put_cell` meets its contract: `put_cell_among` with the number of cells that the header says.
use Rattle.energy_log.specs.Image.{put_cell}
use mathlib.Core.Path.{◌∙◌}
use Rattle.energy_log.proofs.image.put_cell.Goals as goal

pub returns : goal.returns
unfolding put_cell
returns c =
    let at-cells-at = c.cells_at-n in
    c.put_cell_among.ensures ∙ simp at-cells-at.ensures
