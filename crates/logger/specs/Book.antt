-- The plain book, a term of document 01 ("The reader and the log"): "The plain book is fed only the start's header and cells and the
-- calls' arguments, without the log and the open ask that the calls get. It holds an open ask, at first none, and replies by interval,
-- at first the cells that aren't gaps (empty as zeros)." Document 02, request 2: "23 goes, in demand 3's book too; in its place and this
-- order 50 length, 51 CRC, 52 address, 53 function, or a top bit that belies the result, 54 parameter." CR 7: "Demand 3 then fixes it from the history: lapses
-- of asks for that interval, added to what the file held and cut at 255."
use Rattle.std.specs.Prelude.{Bool, cond, not, ◌&&◌, List, [], ◌∷◌, ◌++◌, ℕ, zero, suc, ◌+◌, ◌*◌, eqb, ltb, length, get_or, None, Option}
use Rattle.logger.specs.Held.{opened_for}
use Rattle.refusal.specs.Outcome.{Outcome, outcome}
use Rattle.frame.specs.Layout.{read_size}
use Rattle.slots.specs.Day.{slots_of}
use Rattle.log_header.specs.Interval.{interval_of, if_at}
use Rattle.log_header.specs.declared.header.Header.{Header}
use Rattle.log_cell.specs.declared.cell.Cell.{Cell}
use Rattle.log_cell.specs.declared.cell.Cell.TheVariants.{Gap, Empty, Measured}
use Rattle.byte_numbers.specs.Number.{Bytes}
use Rattle.byte_numbers.specs.Place.{byte_at}
use Rattle.wire_values.specs.Row.{row}
use Rattle.wire_values.specs.declared.row.Row.{Row}
use Rattle.reader.specs.declared.form.Fault.{Fault}
use Rattle.reader.specs.declared.form.Fault.TheVariants as fault
use Rattle.logger.specs.Held.{if_none, if_open}
use Rattle.logger.specs.Reply.{slice_form, if_formed, result_of, if_ok}
use Rattle.logger.specs.declared.held.OpenAsk.{OpenAsk}

-- a call's arguments, without the log and the open ask: an ask's address, day, slot and lent output; a reply's bytes
pub data Call : Type 0 where
  ask : ℕ → ℕ → ℕ → List ℕ → Call
  lapse : Call
  reply : List ℕ → Call

-- the number of an answer, the meter's result that 24 returns (0 with any other), and the length received that 50 returns (likewise)
pub record Answer : Type 0 where
  pub number : ℕ
  pub result : ℕ
  pub length : ℕ

abbrev pub plain : ℕ → Answer
plain n = record { number = n; result = 0; length = 0 }

-- "For a wrong length also return the length received."
abbrev pub fault_answer : Fault → Answer
fault_answer (fault.Length n) = record { number = 50; result = 0; length = n }
fault_answer fault.Crc = plain 51
fault_answer fault.Address = plain 52
fault_answer fault.Function = plain 53
fault_answer fault.Parameter = plain 54

-- the counts of a slice's reply, by its bytes: behind address, function, parameter and result those of 002's figure 18, "E+ E- R+ R-", 2 bytes each with
-- function 3, lowest first
unfoldable pub counts_in : List ℕ → Row
counts_in y =
    row (byte_at y 4 + 256 * byte_at y 5) (byte_at y 6 + 256 * byte_at y 7) (byte_at y 8 + 256 * byte_at y 9) (byte_at y 10 + 256 * byte_at y 11)

unfoldable pub is_zero : Row → Bool
is_zero r = eqb r.e_plus 0 && eqb r.e_minus 0 && eqb r.r_plus 0 && eqb r.r_minus 0

unfoldable pub alike : Row → Row → Bool
alike q r = eqb q.e_plus r.e_plus && eqb q.e_minus r.e_minus && eqb q.r_plus r.r_plus && eqb q.r_minus r.r_minus

-- ---- a cell, worked out afresh from an interval's replies

-- the first reply that has a count other than zero
pub data First : Type 0 where
  none : First
  counts : Row → First

unfoldable pub first_of : List Row → First
first_of [] = none
first_of (r ∷ rs) = cond (is_zero r) (first_of rs) (counts r)

unfoldable pub by_first : First → List Row → Cell
by_first (counts r) rows = Measured r.e_plus r.e_minus r.r_plus r.r_minus
by_first none [] = Gap
by_first none (r ∷ rows) = Empty

-- "A cell with a reply that has a count other than zero is measured and holds the first such reply. A cell with only replies of all
-- zeros is empty, and one with none is a gap." (demand 3)
unfoldable pub afresh : List Row → Cell
unfolding by_first
afresh rows = by_first (first_of rows) rows

-- ---- the book

pub record Book : Type 0 where
  pub held : Option OpenAsk
  pub kept : ℕ → List Row
  -- "lapses of asks for that interval, added to what the file held"
  pub lapses : ℕ → ℕ

-- the interval of a day and slot, in time order
unfoldable pub place_of : Header → ℕ → ℕ → ℕ
place_of h day slot = day * slots_of h.minutes + slot

-- a cell as the replies that came first: "Measured and empty cells read from a file count as replies that came first" (demand 3)
unfoldable pub came_first : Cell → List Row
came_first Gap = []
came_first Empty = row 0 0 0 0 ∷ []
came_first (Measured a b c d) = row a b c d ∷ []

-- the book of a start: no ask open, the cells that are no gaps as replies, and the lapses that the file held
unfoldable pub start_book : List Cell → (ℕ → ℕ) → Book
unfolding came_first
start_book cells lapses = record { held = None; kept = λ i. came_first (get_or cells i Gap); lapses = lapses }

-- the replies with one more at interval i
unfoldable pub kept_with : (ℕ → List Row) → ℕ → Row → ℕ → List Row
kept_with kept i r j = cond (eqb j i) (kept j ++ (r ∷ [])) (kept j)

-- the lapses with one more at interval i
unfoldable pub lapses_with : (ℕ → ℕ) → ℕ → ℕ → ℕ
lapses_with lapses i j = cond (eqb j i) (lapses j + 1) (lapses j)

-- an answer and the book after it
abbrev pub entry : Answer → Option OpenAsk → (ℕ → List Row) → (ℕ → ℕ) → Outcome Answer Book
entry a held kept lapses = outcome a (record { held = held; kept = kept; lapses = lapses })

-- "25 if nonzero and unlike that interval's first nonzero one, else 0"
abbrev pub kept_answer : First → Row → ℕ
kept_answer none r = 0
kept_answer (counts q) r = cond (not (is_zero r) && not (alike q r)) 25 0

-- a reply with result 0 "is kept for the ask's interval"
unfoldable pub keep_reply : (ℕ → List Row) → (ℕ → ℕ) → ℕ → Row → Outcome Answer Book
unfolding kept_with
keep_reply kept lapses i r = entry (plain (kept_answer (first_of (kept i)) r)) None (kept_with kept i r) lapses

-- "A reply gets 20 with none open. If it isn't well formed it gets 23", now one of the five, "and the ask stays. Else the ask closes: a
-- result other than 0 gets 24 with that result; any other reply is kept for the ask's interval"
unfoldable pub book_reply : Header → Option OpenAsk → (ℕ → List Row) → (ℕ → ℕ) → List ℕ → Outcome Answer Book
unfolding keep_reply counts_in
book_reply h held kept lapses y =
    if_open held (entry (plain 20) held kept lapses) (λ address day slot.
    if_formed (slice_form address y) (λ fault. entry (fault_answer fault) held kept lapses) (
    if_ok (result_of y) (entry (record { number = 24; result = result_of y; length = 0 }) None kept lapses) (
    keep_reply kept lapses (place_of h day slot) (counts_in y))))

-- "An ask gets 1, 21 or 22 by the table, else 0 and opens"; document 02, CR 5: "22 also for a slot that doesn't exist"
unfoldable pub book_ask : Header → Option OpenAsk → (ℕ → List Row) → (ℕ → ℕ) → ℕ → ℕ → ℕ → List ℕ → Outcome Answer Book
book_ask h held kept lapses address day slot out =
    cond (ltb (length out) read_size) (entry (plain 1) held kept lapses) (
    if_none held (entry (plain 21) held kept lapses) (
    if_at (interval_of h day slot) (entry (plain 22) held kept lapses) (λ i.
    entry (plain 0) (opened_for address day slot) kept lapses)))

-- "A lapse gets 0, and none is open"; where one was, it counts for the ask's interval (CR 7)
unfoldable pub book_lapse : Header → Option OpenAsk → (ℕ → List Row) → (ℕ → ℕ) → Outcome Answer Book
unfolding lapses_with
book_lapse h held kept lapses =
    if_open held (entry (plain 0) None kept lapses) (λ address day slot.
    entry (plain 0) None kept (lapses_with lapses (place_of h day slot)))

-- one call
unfoldable pub book_step : Header → Book → Call → Outcome Answer Book
unfolding book_ask book_lapse book_reply
book_step h b (ask address day slot out) = book_ask h b.held b.kept b.lapses address day slot out
book_step h b lapse = book_lapse h b.held b.kept b.lapses
book_step h b (reply y) = book_reply h b.held b.kept b.lapses y

-- a list of calls, each with what the one before it left: all answers, and what is left in the end
unfoldable pub run_of : {S : Type 0} → (S → Call → Outcome Answer S) → S → List Call → Outcome (List Answer) S
run_of step s [] = outcome [] s
run_of step s (c ∷ cs) =
    let o = step s c in
    let rest = run_of step o.left cs in
    outcome (o.result ∷ rest.result) rest.left

abbrev pub book_run : Header → Book → List Call → Outcome (List Answer) Book
book_run h b calls = run_of (book_step h) b calls

-- ---- the log that the book's replies give

-- the n cells from interval i on, each worked out afresh
unfoldable pub worked_out : (ℕ → List Row) → ℕ → ℕ → List Cell
worked_out kept i zero = []
worked_out kept i (suc n) = afresh (kept i) ∷ worked_out kept (suc i) n

-- a cell's lapses: "cut at 255" (CR 7)
unfoldable pub cut_at255 : ℕ → ℕ
cut_at255 n = cond (ltb n 255) n 255

abbrev pub lapses_out : (ℕ → ℕ) → ℕ → ℕ
lapses_out lapses i = cut_at255 (lapses i)

-- ---- any call

-- the bytes that a call is lent are bytes
abbrev pub CallBytes : Call → Type 0
CallBytes (ask address day slot out) = Unit
CallBytes lapse = Unit
CallBytes (reply y) = Bytes y

abbrev pub AllBytes : List Call → Type 0
AllBytes [] = Unit
AllBytes (c ∷ calls) = CallBytes c × AllBytes calls
