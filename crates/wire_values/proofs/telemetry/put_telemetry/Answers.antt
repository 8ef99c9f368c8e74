-- `put_telemetry` meets its contract: numbers of four, two and two bytes, put one behind the other, are `telemetry_bytes` (`written-append`).
use Rattle.byte_numbers.proofs.PlaceLaws.{written-append}
use Rattle.byte_numbers.proofs.NumberLaws.{length-bytes_of}
use Rattle.wire_values.specs.Telemetry.{telemetry_bytes}
use Rattle.wire_values.proofs.telemetry.put_telemetry.Goals as goal

pub returns : goal.returns
unfolding telemetry_bytes
returns c =
    let put-u32 = c.put_u32 in
    let put-u16 = c.put_u16 in
    simp (c.put_u16-2.ensures, put-u16.ensures, put-u32.ensures, written-append, length-bytes_of)
