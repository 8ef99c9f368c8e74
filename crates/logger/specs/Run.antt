-- A list of calls, run: each call gets log, figures and open ask as the one before left them (demand 3; document 02, CR 8). The steps are the very definitions that
-- the contracts of `put_ask`, `lapse` and `take_reply` cite.
use Rattle.std.specs.Prelude.{List, ℕ, Result, Option}
use Rattle.logger.specs.declared.take.TakeError.{TakeError}
use Rattle.refusal.specs.Outcome.{Outcome, outcome}
use Rattle.energy_log.specs.View.{view_of}
use Rattle.day_rows.specs.LogAndRows.{LogAndRows, log_and_rows}
use Rattle.logger.specs.Ask as Ask
use Rattle.logger.specs.Lapse as Lapse
use Rattle.logger.specs.Take as Take
use Rattle.logger.specs.Book.{Call, ask, lapse, reply, Answer, plain, run_of}
use Rattle.logger.specs.declared.held.OpenAsk.{OpenAsk}

-- what the calls hand on to each other
pub record State : Type 0 where
  pub log : List ℕ
  pub figures : List ℕ
  pub held : Option OpenAsk

-- the number of a taken reply's answer, with the result that 24 returns and the length that 50 does
abbrev pub take_answer : Result Unit TakeError → Answer
take_answer a = record { number = Take.number_of a; result = Take.result_or a 0; length = Take.length_or a 0 }

-- a log and its figures with an ask that is held
abbrev pub state : LogAndRows → Option OpenAsk → State
state b held = record { log = b.log; figures = b.figures; held = held }

-- one call, by the definition that its contract cites: its answer and the state after it; an ask and a lapse are lent no figures
unfoldable pub step : State → Call → Outcome Answer State
step s (ask address day slot out) =
    let o = Ask.asked (view_of s.log) s.held address day slot out in
    outcome (plain (Ask.number_of o.result.answer)) (state (log_and_rows s.log s.figures) o.result.held)
step s lapse =
    let o = Lapse.lapsed s.log s.held in
    outcome (plain (Lapse.number_of o.result.answer)) (state (log_and_rows o.left s.figures) o.result.held)
step s (reply y) =
    let o = Take.taken (log_and_rows s.log s.figures) s.held y in
    outcome (take_answer o.result.answer) (state o.left o.result.held)

-- a list of calls
abbrev pub run : State → List Call → Outcome (List Answer) State
run s calls = run_of step s calls
