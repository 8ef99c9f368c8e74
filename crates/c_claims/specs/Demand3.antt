-- Demand 3 of the functions that firmware links, over the memory that it lends them. "Then come asks, lapses and replies, refused ones
-- included, in any list and whatever bytes the replies hold. Each call that takes the log or the open ask gets it as the calls before left it."
-- Document 02, CR 8: "Demand 3's premise then covers them as it does the log", the figures beside it.
--
-- The calls run by the definitions that the contracts of `metlazuel_ask`, `metlazuel_lapse` and `metlazuel_take` cite. The history is that of
-- claims/specs/Demand3.antt, which never sees an image or an ask's bytes. Proofs: `demand-3`, proofs/Claims.antt.
use Rattle.std.specs.Prelude.{◌≡◌, cond, List, ℕ, ◌<◌, eqb, length, None, Some, Option}
use Rattle.refusal.specs.Outcome.{Outcome, outcome}
use Rattle.byte_numbers.specs.Place.{byte_at}
use Rattle.energy_log.specs.Pair.{pair_of}
use Rattle.energy_log.specs.View.{view_of}
use Rattle.day_rows.specs.LogAndRows.{log_and_rows}
use Rattle.day_rows.specs.Rows.{row_at, Right}
use Rattle.logger.specs.Book.{Call, ask, lapse, reply, Answer, run_of, CallBytes, AllBytes}
use Rattle.logger.specs.Run.{State, state}
use Rattle.logger.specs.declared.held.OpenAsk.{OpenAsk}
use Rattle.c_values.specs.Ask.{ask_of}
use Rattle.claims.specs.Demand3.{Start, booked, log_afresh, OtherCell, Elsewhere, SameCell}
use Rattle.claims.specs.DayFigures.{OtherDay}
use Rattle.metlazuel.specs.LogCalls.{ask_for_c, lapse_for_c, take_for_c}

-- what C lends to one call after the other: the log, its figures, the ask's bytes, and the words behind `result` and `length`
pub record Lent : Type 0 where
  pub log : List ℕ
  pub figures : List ℕ
  pub ask : List ℕ
  pub result : ℕ
  pub size : ℕ

-- the log and the figures with the ask that the bytes are read as
abbrev pub state_of : Lent → Option OpenAsk → State
state_of m held = state (log_and_rows m.log m.figures) held

-- what C is told: the number, with 24 ("meter's result not 0; returned") the word behind `result`, and with 50 the one behind `length`
unfoldable pub told : ℕ → ℕ → ℕ → Answer
told n word size = record { number = n; result = cond (eqb n 24) word 0; length = cond (eqb n 50) size 0 }

-- one call, by the definition that its contract cites: what C is told, and its memory after it
unfoldable pub step_for_c : Lent → Call → Outcome Answer Lent
step_for_c m (ask address day slot out) =
    let o = ask_for_c (ask_of m.ask) (view_of m.log) m.ask address day slot out in
    outcome (told o.result m.result m.size) (record { log = m.log; figures = m.figures; ask = o.left.0; result = m.result; size = m.size })
step_for_c m lapse =
    let o = lapse_for_c (ask_of m.ask) m.log m.ask in
    outcome (told o.result m.result m.size) (record { log = o.left.0; figures = m.figures; ask = o.left.1; result = m.result; size = m.size })
step_for_c m (reply y) =
    let o = take_for_c (ask_of m.ask) (log_and_rows m.log m.figures) m.ask y m.result m.size in
    outcome (told o.result o.left.0 o.left.1)
    (record { log = o.left.2.log; figures = o.left.2.figures; ask = o.left.3; result = o.left.0; size = o.left.1 })

-- a list of calls, each lent the memory as the one before left it
abbrev pub ran_for_c : Lent → List Call → Outcome (List Answer) Lent
ran_for_c m calls = run_of step_for_c m calls

-- memory to begin with: a log with its figures, bytes that are read as no ask open, and any words
pub record Begins (m : Lent) : Type 0 where
  pub start : Start (log_and_rows m.log m.figures)
  pub closed : ask_of m.ask ≡ Some None

pub record Demand3C : Type 0 where
  -- "After every such list the log is byte for byte the one worked out afresh from that history."
  pub log : (m : Lent) (b : Begins m) (calls : List Call) → AllBytes calls → (ran_for_c m calls).left.log ≡ log_afresh b.start calls
  -- "Every answer, and the ask left open, are those of document 01's plain book": each number, 24's result, 50's length, and the ask as its bytes are read
  pub answers : (m : Lent) (b : Begins m) (calls : List Call) → AllBytes calls → (ran_for_c m calls).result ≡ (booked b.start calls).result
  pub ask-left : (m : Lent) (b : Begins m) (calls : List Call) → AllBytes calls
      → ask_of (ran_for_c m calls).left.ask ≡ Some (booked b.start calls).left.held
  -- "the figures must be those that a walk over the cells gives" (CR 8)
  pub figures : (m : Lent) (b : Begins m) (calls : List Call) → AllBytes calls → let after = (ran_for_c m calls).left in
      Right b.start.header (view_of after.log).cell after.figures
  -- "None of these calls alters a byte of the log outside the cell whose ask was open before the call", whatever log is lent, or a figure of another day;
  -- bytes that are read as no ask leave all that is lent. The sentence "then speaks of cells, and of the bits that hold them" (document 02, CR 9)
  pub others : (m : Lent) (held : Option OpenAsk) (c : Call) (j : ℕ) → CallBytes c → ask_of m.ask ≡ Some held → OtherCell (state_of m held) j
      → SameCell (step_for_c m c).left.log m.log j
  pub elsewhere : (m : Lent) (held : Option OpenAsk) (c : Call) (q j : ℕ) → j < 4 → ask_of m.ask ≡ Some held → Elsewhere (state_of m held) q j
      → pair_of (byte_at (step_for_c m c).left.log q) j ≡ pair_of (byte_at m.log q) j
  pub other_days : (m : Lent) (held : Option OpenAsk) (c : Call) (d : ℕ) → ask_of m.ask ≡ Some held → OtherDay (state_of m held) d
      → row_at (step_for_c m c).left.figures d ≡ row_at m.figures d
  pub as_long : (m : Lent) (c : Call) → length (step_for_c m c).left.log ≡ length m.log
  pub as_many : (m : Lent) (c : Call) → length (step_for_c m c).left.figures ≡ length m.figures
  pub unread : (m : Lent) (c : Call) → ask_of m.ask ≡ None → (step_for_c m c).left ≡ m
