-- `put_record` meets its contract: access takes 19 bytes and settings 35, so the three parts stand one behind the other as `record_bytes`.
use Rattle.meter_record_bytes.proofs.RecordLaws.{length-access, length-setting}
use Rattle.meter_record_bytes.specs.Record.{record_bytes}
use Rattle.byte_numbers.proofs.PlaceLaws.{written-append}
use Rattle.meter_record_bytes.proofs.record.put_record.Goals as goal

pub returns : goal.returns
unfolding record_bytes
returns c =
    let put-access = c.put_access in
    let put-settings = c.put_settings in
    simp (c.put_bench.ensures, put-settings.ensures, put-access.ensures, written-append, length-access, length-setting)
