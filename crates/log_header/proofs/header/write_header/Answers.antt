-- `write_header` meets its contract: the eight parts, put one behind the other, are `header_bytes` (`onward`).
use mathlib.Core.Path.{refl}
use Rattle.byte_numbers.proofs.PlaceLaws.{onward}
use Rattle.byte_numbers.specs.Number.{bytes_of}
use Rattle.log_header.specs.Header.{date_bytes, header_bytes_as}
use Rattle.log_header.proofs.header.write_header.Goals as goal

pub returns : goal.returns
unfolding header_bytes_as date_bytes bytes_of
returns c =
    let to-version = onward _ _ _ _ _ _ _ c.put_bytes.ensures c.put_u16.ensures refl in
    let to-date = onward _ _ _ _ _ _ _ to-version c.write_date.ensures refl in
    let to-days = onward _ _ _ _ _ _ _ to-date c.put_byte.ensures refl in
    let to-minutes = onward _ _ _ _ _ _ _ to-days c.put_byte-2.ensures refl in
    let to-ke = onward _ _ _ _ _ _ _ to-minutes c.put_u16-2.ensures refl in
    let to-seasons = onward _ _ _ _ _ _ _ to-ke c.put_byte-3.ensures refl in
    onward _ _ _ _ _ _ _ to-seasons c.put_byte-4.ensures refl
