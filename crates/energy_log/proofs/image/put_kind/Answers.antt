-- `put_kind` meets its contract: the byte with another pair, at its place.
use Rattle.energy_log.specs.Image.{put_kind}
use mathlib.Core.Path.{◌∙◌}
use Rattle.energy_log.proofs.image.put_kind.Goals as goal

pub returns : goal.returns
unfolding put_kind
returns c =
    let at-put-pair = c.put_pair in
    let at-byte-at = c.byte_at-kinds in
    let at-kind-place = c.kind_place-at in
    c.put_byte.ensures ∙ simp (at-put-pair.ensures, at-byte-at.ensures, at-kind-place.ensures)
