-- `put_display_mask` meets its contract: four bytes and two single ones, put one behind the other, are `mask_bytes` (`written-append`).
use Rattle.byte_numbers.proofs.PlaceLaws.{written-append, written-cons}
use Rattle.byte_numbers.proofs.NumberLaws.{length-bytes_of}
use Rattle.wire_values.specs.Mask.{mask_bytes}
use Rattle.wire_values.proofs.mask.put_display_mask.Goals as goal

pub returns : goal.returns
unfolding mask_bytes
returns c =
    let put-u32 = c.put_u32 in
    let put_byte = c.put_byte in
    simp (c.put_byte-2.ensures, put_byte.ensures, put-u32.ensures, written-append, length-bytes_of, written-cons)
