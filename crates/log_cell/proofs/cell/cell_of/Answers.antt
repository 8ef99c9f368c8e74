-- `cell_of` meets its contract: another length than nine makes `cell_of` bad; else kind and counts are those that it hands to `kind_cell`.
use mathlib.Core.Path.{sym}
use borrow.Author.Tests.{eq-eqb, ne_eqb}
use Rattle.log_cell.specs.Cell.{cell_of}
use Rattle.log_cell.proofs.cell.cell_of.Goals as goal

pub returns-then-bytes-ne-COUNTS_BYTES : goal.returns-then-bytes-ne-COUNTS_BYTES
unfolding cell_of
returns-then-bytes-ne-COUNTS_BYTES c = simp (ne_eqb _ _ c.if-bytes-ne-COUNTS_BYTES.true)

pub returns : goal.returns
unfolding cell_of
returns c =
    let if1 = c.if-bytes-ne-COUNTS_BYTES in
    let byte_at = c.byte_at in
    let u16-at = c.u16_at in
    let u16-at2 = c.u16_at-2 in
    simp (
      eq-eqb _ _ if1.false,
      sym byte_at.ensures,
      sym u16-at.ensures,
      sym u16-at2.ensures,
      sym c.u16_at-3.ensures,
      sym c.u16_at-4.ensures,
      c.kind_cell.ensures,
    )
