-- `seconds_later` meets its contract: in the loop, the seconds that are left lead from the record so far where all of them lead.
use Rattle.std.proofs.Common.{◌≡◌, ◌+◌, ◌-◌, ap, ◌∙◌, arith}
use Rattle.console_meter.specs.SetLines.{later_by, record_after}
use Rattle.console_meter.proofs.SetLinesLaws.{later-on, later-done}
use Rattle.console_meter.proofs.seconds.seconds_later.Goals as goal

pub loop-passed-preserved : goal.loop-passed-preserved
loop-passed-preserved c =
    let loop = c.loop-passed in
    let left : c.args.n - (loop.passed + 1) ≡ c.args.n - loop.passed - 1 = omega arith in
    let once = c.record_after-after.ensures ∙ ap (λ a. record_after a loop.after) c.pass_second.ensures in
    rw left (ap (later_by _) once ∙ later-on _ _ (omega arith) ∙ loop.invariant)

pub returns : goal.returns
returns c = later-done (c.args.n - c.loop-passed.passed) _ (omega arith) ∙ c.loop-passed.invariant
