-- `put_bench` meets its contract: both powers, the interval, the next place and both ratios, put one behind the other, are `bench_bytes` (`onward`).
use mathlib.Core.Path.{refl}
use Rattle.wire_values.specs.Power.{power_bytes}
use Rattle.byte_numbers.specs.Number.{bytes_of}
use Rattle.byte_numbers.proofs.PlaceLaws.{onward}
use Rattle.meter_record_bytes.specs.Record.{bench_bytes}
use Rattle.meter_record_bytes.proofs.record.put_bench.Goals as goal

pub returns : goal.returns
unfolding bench_bytes power_bytes bytes_of
returns c =
    let put-phases = c.put_phases in
    let put-phases2 = c.put_phases-2 in
    let put_byte = c.put_byte in
    let to-reactive = onward _ _ _ _ _ _ _ put-phases.ensures put-phases2.ensures refl in
    let to-minutes = onward _ _ _ _ _ _ _ to-reactive put_byte.ensures refl in
    let to-next = onward _ _ _ _ _ _ _ to-minutes c.put_u16.ensures refl in
    let to-ki = onward _ _ _ _ _ _ _ to-next c.put_u32.ensures refl in
    onward _ _ _ _ _ _ _ to-ki c.put_u32-2.ensures refl
