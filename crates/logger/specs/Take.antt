-- Taking a reply. Source: document 01, "The reader and the log": "One with result 0 turns a gap or empty cell into empty (all zeros) or
-- measured. On a measured cell, zeros or equal counts leave it, answer 0; other nonzero counts answer 25"; "a taken reply is tested 20,
-- 22, 23, 24, 25", 28 right at the start for header and length and "for a cell: just before it is used". Document 02, request 2: "23 goes
-- ..; in its place and this order 50 length, 51 CRC, 52 address, 53 function, or a top bit that belies the result, 54 parameter". CR 8: "1, right after
-- a lent log's header and length, if fewer are lent; 28, last, where a figure would fall below 0 or pass 32 bits".
use Rattle.std.specs.Prelude.{Bool, cond, List, ℕ, Err, Ok, Result, Option}
use Rattle.refusal.specs.Number.{answer_number}
use Rattle.day_rows.specs.declared.put.FigureError.{FigureError}
use Rattle.logger.specs.declared.take.TakeError.{TakeError}
use Rattle.refusal.specs.Outcome.{Outcome, outcome, check}
use Rattle.wire_values.specs.Row.{row, is_zero, alike}
use Rattle.wire_values.specs.declared.row.Row.{Row}
use Rattle.reader.specs.Form as form
use Rattle.reader.specs.Form.{if_reply, fault_number}
use Rattle.log_header.specs.Header.{if_sound}
use Rattle.log_cell.specs.Cell.{if_good}
use Rattle.energy_log.specs.Image.{applied}
use Rattle.energy_log.specs.View.{View, view_of}
use Rattle.log_header.specs.Interval.{interval_of, comes_twice, if_at}
use Rattle.log_cell.specs.declared.cell.Cell.{Cell}
use Rattle.log_cell.specs.declared.cell.Cell.TheVariants as cell
use Rattle.energy_log.specs.declared.image.Change.{Change}
use Rattle.energy_log.specs.declared.image.Change.TheVariants as change
use Rattle.day_rows.specs.LogAndRows.{LogAndRows, log_and_rows, enough}
use Rattle.day_rows.specs.Put.{change_of}
use Rattle.day_rows.specs.declared.put.FigureError.TheVariants as figure
use Rattle.logger.specs.Held.{if_open}
use Rattle.logger.specs.Reply.{slice_reply_of, row_of}
use Rattle.logger.specs.Held as held_by
use Rattle.logger.specs.declared.held.Answered.{Answered}
use Rattle.logger.specs.declared.held.Decided.{Decided}
use Rattle.logger.specs.declared.take.TakeError.TheVariants.{TooShort, NoAskOpen, NotInLog, Malformed, MeterRefused, OtherCounts, Unsound}
use Rattle.logger.specs.declared.take.Update.{Update}
use Rattle.logger.specs.declared.take.Update.TheVariants.{Put, Keep, Conflict}
use Rattle.logger.specs.declared.held.OpenAsk.{OpenAsk}

-- the answer of a reply that is taken with the ask left open, and what it comes to
abbrev pub Taken : Type 0
Taken = Answered TakeError

abbrev pub Decision : Type 0
Decision = Decided TakeError

-- ---- what counts do to a cell

-- "turns a gap or empty cell into empty (all zeros) or measured"
abbrev pub filled : Row → Update
filled r = cond (is_zero r) (Put cell.Empty) (Put (cell.Measured r.e_plus r.e_minus r.r_plus r.r_minus))

-- "On a measured cell, zeros or equal counts leave it, answer 0; other nonzero counts answer 25"
abbrev pub compared : Row → Row → Update
compared held r = cond (is_zero r) Keep (cond (alike held r) Keep Conflict)

unfoldable pub update_of : Cell → Row → Update
update_of cell.Gap r = filled r
update_of cell.Empty r = filled r
update_of (cell.Measured e+ e- r+ r-) r = compared (row e+ e- r+ r-) r

-- ---- what a reply comes to: the answer, the ask left open, and what it does to the log

-- refused, and all stays as it was
abbrev pub stays : Result Unit TakeError → Option OpenAsk → Decision
stays a held = held_by.stays a held

-- the ask is closed
abbrev pub take_closes : Result Unit TakeError → Change → Decision
take_closes a done = held_by.closes a done

-- a cell is put where its day's figures can follow; where they cannot, all stays
unfoldable pub put_with : Result Unit FigureError → Option OpenAsk → ℕ → Cell → Decision
put_with (Ok tt) held i new = take_closes (Ok tt) (change.Put i new)
put_with (Err figure.Unfit) held i new = stays (Err Unsound) held

-- the cell of the ask, of a slot that comes twice or does not, is an old one: what its update comes to, and the figures after it
unfoldable pub updated : Update → Bool → Option OpenAsk → ℕ → ℕ → Cell → List ℕ → Outcome Decision (List ℕ)
unfolding put_with
updated (Put new) twice held day i old figs =
    let o = change_of day twice old new figs in
    outcome (put_with o.result held i new) o.left
updated Keep twice held day i old figs = outcome (take_closes (Ok tt) change.None) figs
updated Conflict twice held day i old figs = outcome (take_closes (Err OtherCounts) change.None) figs

-- the checks, one below the other: 28 (header, length), 1 (figures), 20, 22, 50 to 54, 24, 28 (the cell), 25, 28 (a figure), and then 0
unfoldable pub decided : View → List ℕ → Option OpenAsk → List ℕ → Outcome Decision (List ℕ)
unfolding update_of updated
decided v figs held y =
    if_sound v.lent (outcome (stays (Err Unsound) held) figs) (λ h.
    check (enough h figs) (outcome (stays (Err TooShort) held) figs) (
    if_open held (outcome (stays (Err NoAskOpen) held) figs) (λ address day slot.
    if_at (interval_of h day slot) (outcome (stays (Err NotInLog) held) figs) (λ i.
    if_reply (slice_reply_of address y) (λ fault. outcome (stays (Err (Malformed fault)) held) figs)
    (λ result. outcome (take_closes (Err (MeterRefused result)) change.None) figs) (
    if_good (v.cell i) (outcome (stays (Err Unsound) held) figs) (λ c.
    updated (update_of c (row_of y)) (comes_twice h day slot) held day i c figs))))))

-- what was decided, done to the log, with the figures after it
abbrev pub done : Outcome Decision (List ℕ) → List ℕ → Outcome Taken LogAndRows
done o s = outcome o.result.answered (log_and_rows (applied o.result.change s) o.left)

-- taking a reply
unfoldable pub taken : LogAndRows → Option OpenAsk → List ℕ → Outcome Taken LogAndRows
unfolding decided
taken b held y = done (decided (view_of b.log) b.figures held y) b.log

-- document 01's numbers, and document 02's of a reply that is not well formed
abbrev pub error_number : TakeError → ℕ
error_number TooShort = 1
error_number NoAskOpen = 20
error_number NotInLog = 22
error_number (Malformed fault) = fault_number fault
error_number (MeterRefused result) = 24
error_number OtherCounts = 25
error_number Unsound = 28

abbrev pub number_of : Result Unit TakeError → ℕ
number_of = answer_number error_number

-- 24 is "meter's result not 0; returned"
abbrev pub result_or : Result Unit TakeError → ℕ → ℕ
result_or (Err (MeterRefused result)) other = result
result_or (Ok tt) other = other
result_or (Err TooShort) other = other
result_or (Err NoAskOpen) other = other
result_or (Err NotInLog) other = other
result_or (Err (Malformed fault)) other = other
result_or (Err OtherCounts) other = other
result_or (Err Unsound) other = other

-- "For a wrong length also return the length received."
abbrev pub length_or : Result Unit TakeError → ℕ → ℕ
length_or (Err (Malformed fault)) other = form.length_or fault other
length_or (Ok tt) other = other
length_or (Err TooShort) other = other
length_or (Err NoAskOpen) other = other
length_or (Err NotInLog) other = other
length_or (Err (MeterRefused result)) other = other
length_or (Err OtherCounts) other = other
length_or (Err Unsound) other = other
