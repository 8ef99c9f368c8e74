-- `metlazuel_meter_powers` meets its contract: `keep` tells what `powers_in` ensures, and bits that are no number fare as the infinity does.
use Rattle.std.specs.Prelude.{Result}
use Rattle.meter_record.specs.declared.record.Record.{Record}
use Rattle.meter_record.specs.declared.record.RecordError.{RecordError}
use Rattle.metlazuel.proofs.BitsLaws.{powers-from}
use mathlib.Core.Path.{ap, ◌∙◌}
use Rattle.metlazuel.specs.MeterCalls.{bench_for_c}
use Rattle.metlazuel.proofs.bench_meter.metlazuel_meter_powers.Goals as goal

pub returns : goal.returns
returns c =
    let args = c.args in
    let float-from = c.float_from in
    let float-from2 = c.float_from-2 in
    let float-from3 = c.float_from-3 in
    let record_of = c.record_of in
    let powers-in = c.powers_in-answer in
    c.keep.ensures
    ∙ ap (λ (a : Result Record RecordError). bench_for_c a args.meter.now)
    (powers-in.ensures ∙ rw (record_of.ensures, float-from.ensures, float-from2.ensures, float-from3.ensures) (powers-from _ args.parameter args.a args.b args.c))
