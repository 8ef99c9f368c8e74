-- `put_telemetry` meets its contract: what is written to the front of the part from `at` on is written at `at` in the whole (`part-put`).
use mathlib.Core.Path.{sym}
use Rattle.byte_numbers.proofs.PlaceLaws.{written-past}
use Rattle.meter_record_bytes.proofs.Part.{part-put}
use Rattle.meter_record_bytes.proofs.record.put_telemetry.Goals as goal

pub returns-then-at-out : goal.returns-then-at-out
returns-then-at-out c =
    let args = c.args in
    part-put args.at args.out.now _ _ c.put_telemetry.ensures

pub returns-else-at-out : goal.returns-else-at-out
returns-else-at-out c = sym (written-past _ _ _ c.if-at-out.false)
