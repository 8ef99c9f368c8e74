-- `put_six` meets its contract: six rows of eight bytes, put one behind the other, are `six_bytes` (`onward`).
use Rattle.meter_reply_data.specs.Reading.{six_bytes}
use Rattle.meter_store.specs.Store.{row_bytes}
use Rattle.byte_numbers.proofs.PlaceLaws.{onward}
use Rattle.byte_numbers.specs.Number.{bytes_of}
use mathlib.Core.Path.{refl}
use Rattle.meter_reply_data.proofs.reading.put_six.Goals as goal

pub returns : goal.returns
unfolding six_bytes row_bytes bytes_of
returns c =
    let put-row = c.put_row in
    let put-row2 = c.put_row-2 in
    let put-row3 = c.put_row-3 in
    let put-row4 = c.put_row-4 in
    let put-row5 = c.put_row-5 in
    let two = onward _ _ _ _ _ _ _ put-row.ensures put-row2.ensures refl in
    let three = onward _ _ _ _ _ _ _ two put-row3.ensures refl in
    let four = onward _ _ _ _ _ _ _ three put-row4.ensures refl in
    let five = onward _ _ _ _ _ _ _ four put-row5.ensures refl in
    onward _ _ _ _ _ _ _ five c.put_row-6.ensures refl
