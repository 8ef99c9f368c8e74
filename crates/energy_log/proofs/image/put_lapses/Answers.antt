-- `put_lapses` meets its contract: `put_lapses_among` with the number of cells that the header says.
use Rattle.energy_log.specs.Image.{put_lapses}
use mathlib.Core.Path.{◌∙◌}
use Rattle.energy_log.proofs.image.put_lapses.Goals as goal

pub returns : goal.returns
unfolding put_lapses
returns c =
    let at-cells-at = c.cells_at-n in
    c.put_lapses_among.ensures ∙ simp at-cells-at.ensures
