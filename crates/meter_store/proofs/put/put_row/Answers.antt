-- `put_row` meets its contract: four numbers of two bytes, put one behind the other, are `row_bytes` (`onward`); past the end nothing is written.
use Rattle.byte_numbers.proofs.PlaceLaws.{onward, written-past}
use Rattle.meter_store.specs.Store.{row_bytes}
use Rattle.byte_numbers.specs.Number.{bytes_of}
use native.Mathlib.Omega.{arith}
use mathlib.Core.Path.{refl, sym}
use Rattle.meter_store.proofs.put.put_row.Goals as goal

pub returns-then-at-out : goal.returns-then-at-out
unfolding row_bytes bytes_of
returns-then-at-out c =
    let to-em = onward _ _ _ _ _ _ _ c.put_u16.ensures c.put_u16-then-at-out.ensures refl in
    let to-rp = onward _ _ _ _ _ _ _ to-em c.put_u16-then-at-out-2.ensures (omega arith) in
    onward _ _ _ _ _ _ _ to-rp c.put_u16-then-at-out-3.ensures (omega arith)

pub returns-else-at-out : goal.returns-else-at-out
returns-else-at-out c = sym (written-past _ _ _ c.if-at-out.false)
