-- `write_date` meets its contract: year, month and day, put one behind the other, are `date_bytes` (`onward`).
use mathlib.Core.Path.{refl}
use Rattle.byte_numbers.proofs.PlaceLaws.{onward}
use Rattle.log_header.specs.Header.{date_bytes}
use Rattle.log_header.proofs.header.write_date.Goals as goal

pub returns : goal.returns
unfolding date_bytes
returns c =
    let to-month = onward _ _ _ _ _ _ _ c.put_byte.ensures c.put_byte-2.ensures refl in
    onward _ _ _ _ _ _ _ to-month c.put_byte-3.ensures refl
