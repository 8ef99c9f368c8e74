-- `by_meter` meets its contract: the seconds since the last look come first, and then the frame.
use Rattle.serve.proofs.BenchLaws.{by-answers}
use Rattle.console_meter.proofs.ServedLaws.{after-seconds, answers}
use Rattle.serve.proofs.line.by_meter.Goals as goal

pub returns : goal.returns
returns c =
    let at-seconds-later = c.seconds_later-later in
    let at-answer = c.answer-a in
    by-answers _ _ _ _ (after-seconds _ _ _ _ _ at-seconds-later.ensures (answers _ _ _ _ _ _ at-answer.ensures))
