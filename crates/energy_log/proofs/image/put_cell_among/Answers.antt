-- `put_cell_among` meets its contract: past the last cell nothing is put; else the kind, and then the counts.
use Rattle.energy_log.specs.Image.{put_cell_among}
use borrow.Author.Tests.{lt-ltb, le-ltb}
use mathlib.Core.Path.{◌∙◌}
use Rattle.energy_log.proofs.image.put_cell_among.Goals as goal

pub returns-then-n-i : goal.returns-then-n-i
unfolding put_cell_among
returns-then-n-i c = simp (le-ltb _ _ c.if-n-i.true)

pub returns : goal.returns
unfolding put_cell_among
returns c =
    let at-if1 = c.if-n-i in
    let at-put-kind = c.put_kind in
    let at-kind-of = c.kind_of in
    let at-e-plus = c.e_plus in
    let at-e-minus = c.e_minus in
    let at-r-plus = c.r_plus in
    let at-r-minus = c.r_minus in
    simp (lt-ltb _ _ at-if1.false)
    (c.put_counts.ensures
    ∙ simp (at-put-kind.ensures, at-kind-of.ensures, at-e-plus.ensures, at-e-minus.ensures, at-r-plus.ensures, at-r-minus.ensures))
