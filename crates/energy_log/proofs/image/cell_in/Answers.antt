-- `cell_in` meets its contract: its parts stand at their places, and it is what `kind_cell` makes of them.
use Rattle.energy_log.specs.Image.{read_among}
use borrow.Author.Tests.{lt-ltb}
use mathlib.Core.Path.{◌∙◌}
use Rattle.energy_log.proofs.image.cell_in.Goals as goal

pub returns : goal.returns
unfolding read_among
returns c =
    let at_pre = c.requires in
    let at-pair-of = c.pair_of in
    let at-kind-place = c.kind_place in
    let at-count-in = c.count_in in
    let at-count-place = c.count_place in
    let at-count-in2 = c.count_in-2 in
    let at-count-place2 = c.count_place-2 in
    let at-count-in3 = c.count_in-3 in
    let at-count-place3 = c.count_place-3 in
    simp (lt-ltb _ _ at_pre.0)
    (c.kind_cell.ensures
    ∙ simp (
      at-pair-of.ensures,
      at-kind-place.ensures,
      at-count-in.ensures,
      at-count-place.ensures,
      at-count-in2.ensures,
      at-count-place2.ensures,
      at-count-in3.ensures,
      at-count-place3.ensures,
      c.count_in-4.ensures,
      c.count_place-4.ensures,
    ))
