-- `put_rows` meets its contract: the loop keeps that the rows left, written from row i on, give the whole result; no cell is bad, and it ends as they run out.
use Rattle.log_file.proofs.WalkLaws.{good_from, goods_from}
use Rattle.log_file.specs.Row.{row_start, rows_bytes}
use Rattle.energy_log.specs.Image.{cell_at, lapses_at}
use Rattle.log_header.specs.Header.{header_size, version}
use Rattle.byte_numbers.specs.Place.{written}
use lib.ListN.{length}
use mathlib.Core.Path.{◌≡◌}
use mathlib.Core.Bool.{true}
use Prim.Native.Nat.{◌-◌}
use Rattle.log_file.proofs.write.put_rows.Given as goal

abbrev pub invariant-loop-i : goal.invariant-loop-i
invariant-loop-i l =
    (length l.out ≡ length l.initial.out) × (good_from (cell_at l.log) l.i (l.cells - l.i) ≡ true)
    × (written l.out (row_start version l.i) (rows_bytes version l.i (goods_from (cell_at l.log) l.i (l.cells - l.i)) (lapses_at l.log))
    ≡ written l.initial.out header_size (rows_bytes version 0 (goods_from (cell_at l.log) 0 l.cells) (lapses_at l.log)))
