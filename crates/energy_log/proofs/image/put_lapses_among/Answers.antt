-- `put_lapses_among` meets its contract: past the last cell nothing, else the byte written at the place, which with the room of all cells is there.
use Rattle.energy_log.specs.Image.{put_lapses_among}
use Rattle.byte_numbers.specs.Place.{written}
use borrow.Author.Tests.{lt-ltb, le-ltb}
use mathlib.Core.Path.{◌∙◌}
use Rattle.energy_log.proofs.image.put_lapses_among.Goals as goal

pub returns-then-n-i : goal.returns-then-n-i
unfolding put_lapses_among written
returns-then-n-i c = simp (le-ltb _ _ c.if-n-i.true)

pub returns-then-size_for-log : goal.returns-then-size_for-log
unfolding put_lapses_among written
returns-then-size_for-log c =
    let at-if1 = c.if-n-i in
    simp (lt-ltb _ _ at-if1.false, c.lapses_place-at.ensures)

pub returns : goal.returns
unfolding put_lapses_among written
returns c =
    let at-if1 = c.if-n-i in
    let at-lapses-place = c.lapses_place-at in
    simp (lt-ltb _ _ at-if1.false) (c.put_byte.ensures ∙ simp at-lapses-place.ensures)
