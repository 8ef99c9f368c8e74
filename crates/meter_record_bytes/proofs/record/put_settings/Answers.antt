-- `put_settings` meets its contract: time, telemetry and mask, put one behind the other, are `setting_bytes` (`written-append`).
use Rattle.meter_record_bytes.specs.Record.{setting_bytes}
use Rattle.meter_record_bytes.proofs.TimeLaws.{length-time_bytes}
use Rattle.wire_values.specs.Telemetry.{telemetry_bytes}
use Rattle.byte_numbers.specs.Number.{bytes_of}
use Rattle.byte_numbers.proofs.PlaceLaws.{written-append}
use Rattle.meter_record_bytes.proofs.record.put_settings.Goals as goal

pub returns : goal.returns
unfolding setting_bytes telemetry_bytes bytes_of
returns c =
    let put-time = c.put_time in
    let put-telemetry = c.put_telemetry in
    simp (c.put_mask.ensures, put-telemetry.ensures, put-time.ensures, written-append, length-time_bytes)
