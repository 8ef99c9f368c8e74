-- `write_file` meets its contract: soundness, room and cells are tested in `written_file`'s order, and `put_file` does the rest.
use Rattle.log_file.proofs.WalkLaws.{right-good}
use Rattle.log_header.proofs.HeaderLaws.{sound-log}
use Rattle.energy_log.specs.Image.{cell_at, lapses_at}
use mathlib.Core.Path.{sym, ◌∙◌}
use native.Mathlib.Omega.{arith}
use Rattle.log_file.proofs.write.write_file.Goals as goal

pub cells_right-requires : goal.cells_right-requires
cells_right-requires c =
    let sound = c.sound in
    let args = c.args in
    (sound-log args.log.now _ (sym sound.ensures ∙ c.in-Some.is)).ranges

pub put_file-requires : goal.put_file-requires
put_file-requires c =
    let args = c.args in (
      right-good _ (cell_at args.log.now) (lapses_at args.log.now) (sym c.cells_right.ensures ∙ c.if-not-cells_right.false),
      omega (arith, c.file_length-length.ensures, c.if-out-length.false),
    )
