-- `put_file` meets its contract: a header, the rows behind it and their CRC are the file (`file_written`); no header has so many cells that the sum leaves a word.
use lib.ListN.{length}
use Rattle.byte_numbers.proofs.PlaceLaws.{length-written}
use Rattle.log_header.specs.Header.{header_bytes, version, cells_of}
use Rattle.log_file.specs.File.{file_length_as}
use Rattle.log_file.proofs.FileLaws.{rows-at-most, file_written}
use Rattle.log_file.proofs.RowLaws.{today-starts}
use Rattle.log_file.proofs.WalkLaws.{good_from}
use Rattle.energy_log.specs.Image.{cell_at}
use mathlib.Core.Path.{ap, ◌∙◌}
use native.Mathlib.Omega.{arith}
use Prim.Native.Nat.{ℕ, ◌<◌}
use borrow.Author.Rules.{rules}
use Rattle.log_file.proofs.write.put_file.Goals as goal

pub put_rows-requires : goal.put_rows-requires
unfolding file_length_as
put_rows-requires c =
    let at-args = c.args in
    let at-cells-of = c.cells_of-cells in
    let at_pre = c.requires in
    let header = c.write_header in
    let same = ap length header.ensures ∙ length-written at-args.out.now 0 (header_bytes at-args.h) in (
      ap (λ (k : ℕ). good_from (cell_at at-args.log.now) 0 k) at-cells-of.ensures ∙ at_pre.0,
      rw at-cells-of.ensures (omega (arith, same, at_pre.1)),
    )

pub overflow_mul-cells : goal.overflow_mul-cells
overflow_mul-cells c =
    let Cells-of = c.cells_of-cells in
    let args = c.args in
    let d : args.h.days < 256 = search rules in
    omega (arith, Cells-of.ensures, today-starts (cells_of args.h), rows-at-most version args.h d)

pub overflow_add-cells : goal.overflow_add-cells
overflow_add-cells c =
    let Cells-of = c.cells_of-cells in
    let args = c.args in
    let d : args.h.days < 256 = search rules in
    omega (arith, Cells-of.ensures, today-starts (cells_of args.h), rows-at-most version args.h d)

pub returns : goal.returns
returns c =
    let at-args = c.args in
    let at-cells-of = c.cells_of-cells in
    let at_pre = c.requires in
    let at-write-header = c.write_header in
    let at-put-rows = c.put_rows in
    file_written at-args.log.now at-args.out.now _ _ _ at-args.h _ at-cells-of.ensures at_pre.0 at_pre.1
    at-write-header.ensures at-put-rows.ensures c.seal.ensures
