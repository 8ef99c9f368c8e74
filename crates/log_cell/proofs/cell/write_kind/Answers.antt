-- `write_kind` meets its contract: the kind and the four counts, put one behind the other, are `kind_bytes` (`onward`).
use mathlib.Core.Path.{refl}
use Rattle.byte_numbers.proofs.PlaceLaws.{onward}
use Rattle.byte_numbers.specs.Number.{bytes_of}
use Rattle.log_cell.specs.Cell.{kind_bytes}
use Rattle.log_cell.proofs.cell.write_kind.Goals as goal

pub returns : goal.returns
unfolding kind_bytes bytes_of
returns c =
    let to-ep = onward _ _ _ _ _ _ _ c.put_byte.ensures c.put_u16.ensures refl in
    let to-em = onward _ _ _ _ _ _ _ to-ep c.put_u16-2.ensures refl in
    let to-rp = onward _ _ _ _ _ _ _ to-em c.put_u16-3.ensures refl in
    onward _ _ _ _ _ _ _ to-rp c.put_u16-4.ensures refl
