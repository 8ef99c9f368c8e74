-- `put_access` meets its contract: the head of three bytes and the two passwords, put one behind the other, are `access_bytes`.
use Rattle.meter_record_bytes.specs.Record.{access_bytes}
use Rattle.byte_numbers.proofs.NumberLaws.{length-bytes_of}
use Rattle.byte_numbers.proofs.PlaceLaws.{written-append}
use Rattle.meter_record_bytes.proofs.record.put_access.Goals as goal

pub returns : goal.returns
unfolding access_bytes
returns c =
    let level-byte = c.level_byte in
    let put-bytes = c.put_bytes in
    let put-u64 = c.put_u64 in
    simp (c.put_u64-2.ensures, put-u64.ensures, put-bytes.ensures, level-byte.ensures, written-append, length-bytes_of)
