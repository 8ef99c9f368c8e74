-- `lapses_among` meets its contract: past the last cell none, else the byte at the place, which with the room of all cells is there.
use Rattle.energy_log.specs.Image.{lapses_among}
use borrow.Author.Tests.{lt-ltb, le-ltb}
use mathlib.Core.Path.{◌∙◌}
use Rattle.energy_log.proofs.image.lapses_among.Goals as goal

pub returns-then-n-i : goal.returns-then-n-i
unfolding lapses_among
returns-then-n-i c = simp (le-ltb _ _ c.if-n-i.true)

pub returns-then-size_for-log : goal.returns-then-size_for-log
unfolding lapses_among
returns-then-size_for-log c =
    let at-if1 = c.if-n-i in
    let at-lapses-place = c.lapses_place-at in
    simp (lt-ltb _ _ at-if1.false, at-lapses-place.ensures)

pub returns : goal.returns
unfolding lapses_among
returns c =
    let at-if1 = c.if-n-i in
    let at-lapses-place = c.lapses_place-at in
    simp (lt-ltb _ _ at-if1.false) (c.byte_at.ensures ∙ simp at-lapses-place.ensures)
