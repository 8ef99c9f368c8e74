-- `file_length_as` meets its contract: where the rows end and the CRC's two; no header has so many cells that it leaves a word (`rows-at-most`).
use Rattle.log_file.specs.File.{file_length_as}
use Rattle.log_file.specs.Row.{row_start}
use Rattle.log_file.proofs.FileLaws.{rows-at-most}
use Rattle.frame.specs.Layout.{crc_size}
use borrow.Author.Rules.{rules}
use native.Mathlib.Omega.{arith}
use mathlib.Core.Path.{ap, ◌∙◌}
use Prim.Native.Nat.{ℕ, ◌+◌, ◌<◌}
use Rattle.log_file.proofs.file.file_length_as.Goals as goal

pub row_start-requires : goal.row_start-requires
row_start-requires c =
    let args = c.args in
    let d : args.h.days < 256 = search rules in
    rw c.cells_of.ensures (omega (arith, rows-at-most args.version args.h d))

pub overflow_add-result : goal.overflow_add-result
overflow_add-result c =
    let args = c.args in
    let d : args.h.days < 256 = search rules in
    let end = c.row_start.ensures ∙ ap (row_start args.version) c.cells_of.ensures in
    omega (arith, end, rows-at-most args.version args.h d)

pub returns : goal.returns
unfolding file_length_as
returns c =
    let args = c.args in
    ap (λ (n : ℕ). n + crc_size) (c.row_start.ensures ∙ ap (row_start args.version) c.cells_of.ensures)
