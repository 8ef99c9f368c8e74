-- Document 02, CR 13, "Polling order": "Show that two histories holding the same completed asks, each with its reply or lapse, in another order give equal logs,
-- provided that no interval has two different nonzero replies among them, that each ask is closed before the next, and that they start as demand 3 does, from the
-- same log, whose measured cells count among those replies. Where only the first of these fails, show that the logs differ at most in the cells concerned."
--
-- The calls run by the definitions that the contracts of `put_ask`, `lapse` and `take_reply` cite (`ran` of claims/specs/Demand3.antt). Answers are not spoken of: 0 and 25
-- change places with their replies. Proofs: `polling-order`, proofs/Claims.antt.
use Rattle.std.specs.Prelude.{◌≡◌, false, List, [], ◌∷◌, reverse, ◌⊎◌, ℕ, ◌+◌, ◌*◌, ◌≤◌, ◌<◌, length, Some}
use Rattle.byte_numbers.specs.Place.{byte_at}
use Rattle.slots.specs.Day.{slots_of}
use Rattle.log_header.specs.Header.{cells_of, sound_of}
use Rattle.energy_log.specs.Image.{OutsideCell}
use Rattle.log_header.specs.Interval.{interval_of}
use Rattle.energy_log.specs.Pair.{pair_of}
use Rattle.energy_log.specs.View.{view_of}
use Rattle.log_cell.specs.declared.cell.Cell.TheVariants.{Gap}
use Rattle.log_header.specs.declared.header.Header.{Header}
use Rattle.day_rows.specs.LogAndRows.{LogAndRows, log_and_rows}
use Rattle.day_rows.specs.Rows.{row_at}
use Rattle.logger.specs.Book.{is_zero, Call, AllBytes}
use Rattle.wire_values.specs.declared.row.Row.{Row}
use Rattle.claims.specs.Demand3.{Start, ran}
use Rattle.polling_order.specs.Completed.{counted, Completed, ending_of, asks_in, replies_at}
use Rattle.polling_order.specs.Order.{Reordered, OneReply, OneReplyEach}
use Rattle.polling_order.specs.Premises.{round_of, reply_with, RowFits, OnceEach, NoneMeasured}
use Rattle.polling_order.specs.Rounds.{lapses, answers, Round, calls_of, Completes, AllComplete, asks_of}

-- the log and its figures after a list of calls: "equal logs" are equal in every byte, those of the lapses among them, and in every figure
abbrev pub after : LogAndRows → List Call → LogAndRows
after b calls = let s = (ran b calls).left in log_and_rows s.log s.figures

-- interval i is one of day d's
pub record OfDay (h : Header) (d i : ℕ) : Type 0 where
  pub from : d * slots_of h.minutes ≤ i
  pub before_end : i < d * slots_of h.minutes + slots_of h.minutes

-- "the logs differ at most in the cells concerned", those of intervals that have two different nonzero replies among these asks': header, lapses, every other cell, and
-- the figures of every day without such an interval are the same, and every bit of the log that holds none of them
pub record SameElsewhere {b : LogAndRows} (start : Start b) (asks : List Completed) (s t : LogAndRows) : Type 0 where
  pub header : (sound_of s.log ≡ Some start.header) × (sound_of t.log ≡ Some start.header)
  pub size : length s.log ≡ length t.log
  pub lapses : (i : ℕ) → (view_of s.log).lapses i ≡ (view_of t.log).lapses i
  pub cells : (i : ℕ) → OneReply (replies_at start asks i) → (view_of s.log).cell i ≡ (view_of t.log).cell i
  pub figures : (d : ℕ) → ((i : ℕ) → i < cells_of start.header → OfDay start.header d i → OneReply (replies_at start asks i))
      → row_at s.figures d ≡ row_at t.figures d
  -- "of cells, and of the bits that hold them" (CR 9), two bits at a time
  pub bits : (q j : ℕ) → j < 4 → ((i : ℕ) → i < cells_of start.header → OneReply (replies_at start asks i) ⊎ OutsideCell (cells_of start.header) i q j)
      → pair_of (byte_at s.log q) j ≡ pair_of (byte_at t.log q) j

pub record PollingOrder : Type 0 where
  -- lists of completed asks, each ask closed before the next
  pub list_equal : (b : LogAndRows) (start : Start b) (these those : List Round) → let h = start.header in AllComplete h these → AllComplete h those
      → Reordered (asks_of h these) (asks_of h those) → OneReplyEach start (asks_of h these)
      → after b (calls_of these) ≡ after b (calls_of those)
  pub list_elsewhere : (b : LogAndRows) (start : Start b) (these those : List Round) → let h = start.header in AllComplete h these → AllComplete h those
      → Reordered (asks_of h these) (asks_of h those)
      → SameElsewhere start (asks_of h these) (after b (calls_of these)) (after b (calls_of those))
  -- any histories that hold the same completed asks: asks that were refused, lapses with none open and replies that are not well formed may stand between
  pub equal : (b : LogAndRows) (start : Start b) (these those : List Call) → AllBytes these → AllBytes those
      → Reordered (asks_in start these) (asks_in start those) → OneReplyEach start (asks_in start these)
      → after b these ≡ after b those
  pub elsewhere : (b : LogAndRows) (start : Start b) (these those : List Call) → AllBytes these → AllBytes those
      → Reordered (asks_in start these) (asks_in start those)
      → SameElsewhere start (asks_in start these) (after b these) (after b those)
  -- such histories there are. A list of completed asks is a history that holds just these, for as many asks of the log as one likes; what closes an ask may be a lapse, or a
  -- reply with any four counts
  pub held : (b : LogAndRows) (start : Start b) (rounds : List Round) → AllComplete start.header rounds
      → AllBytes (calls_of rounds) × (asks_in start (calls_of rounds) ≡ asks_of start.header rounds)
  pub lapse_completes : (h : Header) (address day slot i : ℕ) → interval_of h day slot ≡ Some i → Completes h (round_of address day slot lapses)
  pub reply_completes : (h : Header) (address day slot i : ℕ) (r : Row) → address < 256 → RowFits r → interval_of h day slot ≡ Some i
      → Completes h (round_of address day slot (answers (reply_with address r))) × (ending_of (reply_with address r) ≡ counted r)
  -- no interval has two different nonzero replies where each is asked for once and no measured one is asked for
  pub once_each : (b : LogAndRows) (start : Start b) (asks : List Completed) → OnceEach asks → NoneMeasured start asks → OneReplyEach start asks
  -- "We want to ask newest first": from its end a list is the same in another order, and gives the same log
  pub newest_first : (b : LogAndRows) (start : Start b) (rounds : List Round) → let h = start.header in AllComplete h rounds → OneReplyEach start (asks_of h rounds)
      → AllComplete h (reverse rounds) × Reordered (asks_of h rounds) (asks_of h (reverse rounds))
      × (after b (calls_of rounds) ≡ after b (calls_of (reverse rounds)))
  -- and where an interval has two different nonzero replies the logs do differ: two replies for one gap
  pub differ : (b : LogAndRows) (start : Start b) (day slot i : ℕ) → let h = start.header in interval_of h day slot ≡ Some i → (view_of b.log).cell i ≡ Some Gap
      → (q r : Row) → RowFits q → RowFits r → is_zero q ≡ false → is_zero r ≡ false → (q ≡ r → ⊥)
      → let one = round_of 1 day slot (answers (reply_with 1 q)) in let two = round_of 1 day slot (answers (reply_with 1 r)) in
      Reordered (asks_of h (one ∷ two ∷ [])) (asks_of h (two ∷ one ∷ []))
      × ((ran b (calls_of (one ∷ two ∷ []))).left.log ≡ (ran b (calls_of (two ∷ one ∷ []))).left.log → ⊥)
