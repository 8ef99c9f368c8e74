-- What becomes of an ask. Source: document 01, "The reader and the log": "A lapse closes it"; its refusal table: "23 reply not well
-- formed: ask stays open", which document 02, request 2, tells apart; CR 7: "how many asks for it ended in a lapse".
use Rattle.std.specs.Prelude.{ℕ, List, [], ◌∷◌, Err, Ok, Result, Option}
use Rattle.logger.specs.declared.no_reply.LapseError.{LapseError}
use Rattle.logger.specs.declared.take.TakeError.{TakeError}
use Rattle.refusal.specs.Outcome.{Outcome, outcome}
use Rattle.day_rows.specs.LogAndRows.{LogAndRows, log_and_rows}
use Rattle.logger.specs.Lapse as Lapse
use Rattle.logger.specs.declared.no_reply.LapseError.TheVariants as lapse
use Rattle.logger.specs.Take as Take
use Rattle.logger.specs.declared.take.TakeError.TheVariants.{TooShort, NoAskOpen, NotInLog, Malformed, MeterRefused, OtherCounts, Unsound}
use Rattle.logger.specs.declared.held.OpenAsk.{OpenAsk}
use Rattle.polling.specs.declared.fate.Fate.{Fate}
use Rattle.polling.specs.declared.fate.Fate.TheVariants as fate
use Rattle.polling.specs.declared.fate.Settled.{Settled}

-- the fate of an ask by the answer to its reply; where that is another number of the table, the number
abbrev pub fate_of : Result Unit TakeError → Fate
fate_of (Ok tt) = fate.Taken
fate_of (Err (Malformed fault)) = fate.Malformed fault
fate_of (Err (MeterRefused result)) = fate.Refused
fate_of (Err TooShort) = fate.Stopped (Take.number_of (Err TooShort))
fate_of (Err NoAskOpen) = fate.Stopped (Take.number_of (Err NoAskOpen))
fate_of (Err NotInLog) = fate.Stopped (Take.number_of (Err NotInLog))
fate_of (Err OtherCounts) = fate.Stopped (Take.number_of (Err OtherCounts))
fate_of (Err Unsound) = fate.Stopped (Take.number_of (Err Unsound))

-- what was heard for the open ask is taken as the logger takes a reply; nothing heard is silence
unfoldable pub heard : LogAndRows → Option OpenAsk → List ℕ → Outcome Settled LogAndRows
heard b held [] = outcome (record { fate = fate.Silent; held = held }) b
heard b held (x ∷ y) =
    let o = Take.taken b held (x ∷ y) in
    outcome (record { fate = fate_of o.result.answer; held = o.result.held }) o.left

-- a lapse that is refused stops the poll
abbrev pub fate_lapsed : Result Unit LapseError → Fate → Fate
fate_lapsed (Ok tt) f = f
fate_lapsed (Err lapse.NotInLog) f = fate.Stopped (Lapse.number_of (Err lapse.NotInLog))
fate_lapsed (Err lapse.Unsound) f = fate.Stopped (Lapse.number_of (Err lapse.Unsound))

-- and then the ask lapses, where the reply has not closed it
unfoldable pub ask_settled : LogAndRows → Option OpenAsk → List ℕ → Outcome Settled LogAndRows
unfolding heard
ask_settled b held y =
    let o = heard b held y in
    let l = Lapse.lapsed o.left.log o.result.held in
    outcome (record { fate = fate_lapsed l.result.answer o.result.fate; held = l.result.held }) (log_and_rows l.left o.left.figures)
