-- An ask leaves the log and the ask that it answers; one that was made leads on to the exchange.
use Rattle.day_rows.specs.LogAndRows.{log_and_rows}
use Rattle.polling.proofs.ReachedLaws.{asks, onward}
use Rattle.poll_days.proofs.days.Job.one_ask.Goals as goal

pub returns-then-is_err : goal.returns-then-is_err
returns-then-is_err c =
    rw c.holding.ensures (asks (log_and_rows c.args.image.now c.args.figures.now) _ _ _ _ _ _ c.put_ask-asked.result c.put_ask-asked.ensures)

pub returns : goal.returns
returns c =
    onward (asks (log_and_rows c.args.image.now c.args.figures.now) _ _ _ _ _ _ c.put_ask-asked.result c.put_ask-asked.ensures) c.exchanged.ensures
