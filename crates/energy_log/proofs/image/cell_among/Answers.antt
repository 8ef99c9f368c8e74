-- `cell_among` meets its contract: past the last cell there is none; with the room of all cells `cell_in` reads it, without it the total readers do.
use mathlib.Core.Path.{◌∙◌}
use borrow.Author.Tests.{lt-ltb, le-ltb}
use Rattle.energy_log.specs.Image.{read_among}
use Rattle.energy_log.proofs.image.cell_among.Goals as goal

pub returns-then-cells-i : goal.returns-then-cells-i
unfolding read_among
returns-then-cells-i c = simp (le-ltb _ _ c.if-cells-i.true)

pub returns : goal.returns
unfolding read_among
returns c =
    let at-if1 = c.if-cells-i in
    let at-kind-at = c.kind_at in
    let at-count-at = c.count_at in
    let at-count-at2 = c.count_at-2 in
    simp (lt-ltb _ _ at-if1.false)
    (c.kind_cell.ensures
    ∙ simp (at-kind-at.ensures, at-count-at.ensures, at-count-at2.ensures, c.count_at-3.ensures, c.count_at-4.ensures))
