-- `write_place` meets its contract: month, day, number and the row, put one behind the other, are the place's eleven bytes (`onward`).
use Rattle.byte_numbers.proofs.PlaceLaws.{onward}
use Rattle.meter_store.specs.Store.{place_bytes_of}
use mathlib.Core.Path.{refl}
use Rattle.meter_store.proofs.put.write_place.Goals as goal

pub returns : goal.returns
unfolding place_bytes_of
returns c =
    let to-day = onward _ _ _ _ _ _ _ c.put_byte.ensures c.put_byte-2.ensures refl in
    let to-slot = onward _ _ _ _ _ _ _ to-day c.put_byte-3.ensures refl in
    onward _ _ _ _ _ _ _ to-slot c.put_row.ensures refl
