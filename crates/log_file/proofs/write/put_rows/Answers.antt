-- `put_rows` meets its contract: the loop keeps that the rows left, written from row i on, give the whole result; no cell is bad, and it ends as they run out.
use Rattle.log_cell.specs.declared.cell.Cell.{Cell}
use Rattle.log_file.proofs.WalkLaws.{goods_from, the_cell, seen-good, cell-among, lapses-among, walk-starts, here-good, still-good, next-cell, cells-end}
use Rattle.log_file.proofs.RowLaws.{put_row, first-row, today-starts, today-size, length-put_row, row-looked, row_put}
use Rattle.log_file.specs.Row.{row_start, rows_bytes}
use Rattle.energy_log.specs.Image.{cell_at, lapses_at}
use Rattle.log_header.specs.Header.{version}
use Rattle.byte_numbers.specs.Place.{written}
use lib.ListN.{length}
use mathlib.Core.Path.{refl, sym, ap, ◌∙◌}
use mathlib.Core.List.{List}
use native.Mathlib.Omega.{arith}
use native.Mathlib.Nat.{sub-zero}
use Prim.Native.Nat.{ℕ, ◌+◌, ◌-◌}
use Rattle.log_file.proofs.write.put_rows.Goals as goal

pub loop-i-init : goal.loop-i-init
loop-i-init c =
    (refl, walk-starts (cell_at c.args.log.now) c.args.cells ∙ c.requires.0, rw (sub-zero, first-row) refl)

pub put_known-requires : goal.put_known-requires
put_known-requires c =
    let i = c.loop-i.i in
    omega (arith, c.loop-i-test.true, c.loop-i.invariant.0, c.requires.1, today-starts i, today-size, today-starts c.args.cells)

pub loop-i-preserved : goal.loop-i-preserved
loop-i-preserved c =
    let at-loop = c.loop-i in
    let says = c.cells_at-n in
    let at-args = c.args in
    let log = at-args.log.now in
    let cell = cell_at log in
    let s = at-loop.out in
    let i = at-loop.i in
    let n = at-args.cells in
    let lapses = lapses_at log in
    let more = c.loop-i-test.true in
    let seen = seen-good (cell i) (here-good cell i n more at-loop.invariant.1) in
    let put = c.put_known.ensures
    ∙ row-looked says.result log i s (the_cell (cell i)) (cell-among log says.result i says.ensures ∙ seen)
    ∙ ap (put_row s i (the_cell (cell i))) (lapses-among log says.result i says.ensures) in (
      ap length put ∙ length-put_row s i _ _ ∙ at-loop.invariant.0,
      still-good cell i n more _ seen at-loop.invariant.1,
      ap (λ (x : List ℕ). written x (row_start version (i + 1)) (rows_bytes version (i + 1) (goods_from cell (i + 1) (n - (i + 1))) lapses)) put
          ∙ row_put s i _ _ lapses
          ∙ sym (ap (λ (x : List Cell). written s (row_start version i) (rows_bytes version i x lapses)) (next-cell cell i n more _ seen))
          ∙ at-loop.invariant.2,
    )

pub shape_of-out : goal.shape_of-out
shape_of-out c = c.loop-i.invariant.0

pub returns : goal.returns
unfolding written rows_bytes
returns c =
    let at-args = c.args in
    let turn = c.loop-i in
    let none = cells-end (cell_at at-args.log.now) turn.i (at-args.cells - turn.i) (omega arith) in
    sym (ap (λ (x : List Cell). written turn.out (row_start version turn.i) (rows_bytes version turn.i x (lapses_at at-args.log.now))) none) ∙ turn.invariant.2
