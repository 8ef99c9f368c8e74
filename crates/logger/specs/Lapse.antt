-- A lapse. Source: document 01, "The reader and the log": "A lapse closes it; with nothing open a lapse does nothing"; document 02, CR 7: "A lapse with
-- an open ask now changes that byte, tested 28, 22, 28 (cell); with none open it still answers 0."
use Rattle.std.specs.Prelude.{cond, List, ℕ, ◌+◌, ltb, Err, Ok, Result, Option}
use Rattle.refusal.specs.Number.{answer_number}
use Rattle.logger.specs.declared.no_reply.LapseError.{LapseError}
use Rattle.refusal.specs.Outcome.{Outcome, outcome}
use Rattle.log_header.specs.Header.{if_sound}
use Rattle.log_cell.specs.Cell.{if_good}
use Rattle.energy_log.specs.Image.{applied}
use Rattle.energy_log.specs.View.{View, view_of}
use Rattle.log_header.specs.Interval.{interval_of, if_at}
use Rattle.energy_log.specs.declared.image.Change.{Change}
use Rattle.energy_log.specs.declared.image.Change.TheVariants as change
use Rattle.logger.specs.Held.{if_open}
use Rattle.logger.specs.declared.no_reply.LapseError.TheVariants.{NotInLog, Unsound}
use Rattle.logger.specs.Held as held_by
use Rattle.logger.specs.declared.held.Answered.{Answered}
use Rattle.logger.specs.declared.held.Decided.{Decided}
use Rattle.logger.specs.declared.held.OpenAsk.{OpenAsk}

-- the answer of a lapse with the ask left open, and what it comes to
abbrev pub Lapsed : Type 0
Lapsed = Answered LapseError

abbrev pub LapseDecision : Type 0
LapseDecision = Decided LapseError

-- "0 to 255, staying at 255"
abbrev pub lapses_most : ℕ
lapses_most = 255

-- one lapse more
unfoldable pub one_more : ℕ → ℕ
one_more n = cond (ltb n lapses_most) (n + 1) lapses_most

-- refused, and all stays as it was
abbrev pub stays : Result Unit LapseError → Option OpenAsk → LapseDecision
stays a held = held_by.stays a held

-- none is open after it
abbrev pub lapse_closes : Change → LapseDecision
lapse_closes done = held_by.closes (Ok tt) done

-- with none open 0, over any log; else 28 (header, length), 22, 28 (the cell), and then 0, one lapse more and the ask closed
unfoldable pub lapsing : View → Option OpenAsk → LapseDecision
lapsing v held =
    if_open held (lapse_closes change.None) (λ address day slot.
    if_sound v.lent (stays (Err Unsound) held) (λ h.
    if_at (interval_of h day slot) (stays (Err NotInLog) held) (λ i.
    if_good (v.cell i) (stays (Err Unsound) held) (λ c.
    lapse_closes (change.Lapses i (one_more (v.lapses i)))))))

-- a lapse
unfoldable pub lapsed : List ℕ → Option OpenAsk → Outcome Lapsed (List ℕ)
lapsed s held =
    let l = lapsing (view_of s) held in
    outcome l.answered (applied l.change s)

-- document 01's numbers
abbrev pub error_number : LapseError → ℕ
error_number NotInLog = 22
error_number Unsound = 28

abbrev pub number_of : Result Unit LapseError → ℕ
number_of = answer_number error_number
