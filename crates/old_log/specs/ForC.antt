-- An old and a new log that C lends. Source: document 02, CR 9: "get the same answers from every call with the same other arguments, and hold the same cells and
-- figures after it". C's other arguments are the ask's four bytes and the words behind `result`, `length`, `kind`, `lapses` and `slot`, which are the same too
-- after it. Proofs: `today-for-c` and `same-for-c`, proofs/Claims.antt.
use Rattle.std.specs.Prelude.{◌≡◌, List, ℕ, take, None, Option, Some}
use Rattle.refusal.specs.Outcome.{Outcome, outcome}
use Rattle.byte_numbers.specs.Number.{Bytes}
use Rattle.energy_log.specs.Fresh.{fresh_number}
use Rattle.log_header.specs.declared.header.Header.{Header}
use Rattle.day_rows.specs.LogAndRows.{LogAndRows, log_and_rows}
use Rattle.day_rows.specs.Fresh.{fresh_with}
use Rattle.day_report.specs.Report.{report_of, report_number}
use Rattle.log_file.specs.Read.{read_file, read_number}
use Rattle.log_file.specs.Write.{written_file, write_number}
use Rattle.logger.specs.Book.{Call, ask, lapse, reply, Answer, run_of, AllBytes}
use Rattle.logger.specs.declared.held.OpenAsk.{OpenAsk}
use Rattle.c_values.specs.Ask.{ask_of}
use Rattle.metlazuel.specs.Calls.{numbered, sized}
use Rattle.metlazuel.specs.LogCalls.{image_length, file_length, length_after, ask_for_c, lapsed_for_c, lapse_for_c, taken_for_c, take_for_c}
use Rattle.metlazuel.specs.CellCalls.{cell_for_c, next_gap_for_c}
use Rattle.c_claims.specs.Demand3.{Lent, told, step_for_c}
use Rattle.old_log.specs.Layout.{Layout, rows, columns, lapsed_in, taken_in, fresh_in, read_in}
use Rattle.old_log.specs.Same.{Alike, Rooms, FileRooms}

-- ---- the functions that alter a log, or make one, in a layout, each as the definition that its contract cites

-- `lapse_for_c` and `take_for_c` of metlazuel/specs/LogCalls.antt
unfoldable pub lapse_for_c_in : Layout → Option (Option OpenAsk) → List ℕ → List ℕ → Outcome ℕ (List ℕ × List ℕ)
lapse_for_c_in l (Some held) log bs = lapsed_for_c held (lapsed_in l log held) bs
lapse_for_c_in l None log bs = outcome 28 (log, bs)

unfoldable pub take_for_c_in : Layout → Option (Option OpenAsk) → LogAndRows → List ℕ → List ℕ → ℕ → ℕ → Outcome ℕ (ℕ × ℕ × LogAndRows × List ℕ)
take_for_c_in l (Some held) b bs y result size = taken_for_c held (taken_in l b held y) result size bs
take_for_c_in l None b bs y result size = outcome 28 (result, size, b, bs)

-- what `metlazuel_log_fresh` and `metlazuel_read_file` promise
abbrev pub fresh_for_c_in : Layout → Header → List ℕ → List ℕ → ℕ → Outcome ℕ (ℕ × LogAndRows)
fresh_for_c_in l h out figs word = sized fresh_number image_length (fresh_in l h out figs) word

abbrev pub read_for_c_in : Layout → List ℕ → List ℕ → List ℕ → ℕ → Outcome ℕ (ℕ × LogAndRows)
read_for_c_in l f out figs word = sized read_number length_after (read_in l f out figs) word

-- `step_for_c` of c_claims/specs/Demand3.antt, and a list of calls
unfoldable pub step_for_c_in : Layout → Lent → Call → Outcome Answer Lent
step_for_c_in l m (ask address day slot out) =
    let o = ask_for_c (ask_of m.ask) (l.view m.log) m.ask address day slot out in
    outcome (told o.result m.result m.size) (record { log = m.log; figures = m.figures; ask = o.left.0; result = m.result; size = m.size })
step_for_c_in l m lapse =
    let o = lapse_for_c_in l (ask_of m.ask) m.log m.ask in
    outcome (told o.result m.result m.size) (record { log = o.left.0; figures = m.figures; ask = o.left.1; result = m.result; size = m.size })
step_for_c_in l m (reply y) =
    let o = take_for_c_in l (ask_of m.ask) (log_and_rows m.log m.figures) m.ask y m.result m.size in
    outcome (told o.result o.left.0 o.left.1)
    (record { log = o.left.2.log; figures = o.left.2.figures; ask = o.left.3; result = o.left.0; size = o.left.1 })

abbrev pub run_for_c_in : Layout → Lent → List Call → Outcome (List Answer) Lent
run_for_c_in l m calls = run_of (step_for_c_in l) m calls

-- over columns they are today's
pub record TodayForC : Type 0 where
  pub lapse : (a : Option (Option OpenAsk)) (log bs : List ℕ) → lapse_for_c_in columns a log bs ≡ lapse_for_c a log bs
  pub take : (a : Option (Option OpenAsk)) (b : LogAndRows) (bs y : List ℕ) (result size : ℕ) → take_for_c_in columns a b bs y result size ≡ take_for_c a b bs y result size
  pub fresh : (h : Header) (out figs : List ℕ) (word : ℕ) → fresh_for_c_in columns h out figs word ≡ sized fresh_number image_length (fresh_with h out figs) word
  pub read : (f out figs : List ℕ) (word : ℕ) → read_for_c_in columns f out figs word ≡ sized read_number length_after (read_file f out figs) word
  pub step : (m : Lent) (c : Call) → step_for_c_in columns m c ≡ step_for_c m c

-- ---- "get the same answers .., and hold the same cells and figures after it"

-- of a lapse, the ask's bytes after it
pub record SameLapse (o n : Outcome ℕ (List ℕ × List ℕ)) : Type 0 where
  pub answer : o.result ≡ n.result
  pub seen : Alike o.left.0 n.left.0
  pub ask : o.left.1 ≡ n.left.1

-- of a reply, the words behind `result` and `length` too
pub record SameTake (o n : Outcome ℕ (ℕ × ℕ × LogAndRows × List ℕ)) : Type 0 where
  pub answer : o.result ≡ n.result
  pub result : o.left.0 ≡ n.left.0
  pub size : o.left.1 ≡ n.left.1
  pub seen : Alike o.left.2.log n.left.2.log
  pub figures : o.left.2.figures ≡ n.left.2.figures
  pub ask : o.left.3 ≡ n.left.3

-- of a log made in the lent bytes: its length is told, by each layout, and in so many bytes of each the same is seen
pub record MadeForC (o n : Outcome ℕ (ℕ × LogAndRows)) : Type 0 where
  pub header : Header
  pub old_length : o.left.0 ≡ rows.size header
  pub new_length : n.left.0 ≡ columns.size header
  pub sound : (columns.view (take n.left.0 n.left.1.log)).lent ≡ Some header
  pub seen : Alike (take o.left.0 o.left.1.log) (take n.left.0 n.left.1.log)

-- a refusal leaves both outputs, and the word behind `length`
pub record LeftForC (a b : List ℕ) (word : ℕ) (o n : Outcome ℕ (ℕ × LogAndRows)) : Type 0 where
  pub old_length : o.left.0 ≡ word
  pub new_length : n.left.0 ≡ word
  pub old_log : o.left.1.log ≡ a
  pub new-log : n.left.1.log ≡ b

pub record SameMadeForC (a b : List ℕ) (word : ℕ) (o n : Outcome ℕ (ℕ × LogAndRows)) : Type 0 where
  pub answer : o.result ≡ n.result
  pub figures : o.left.1.figures ≡ n.left.1.figures
  pub made : n.result ≡ 0 → MadeForC o n
  pub refused : (n.result ≡ 0 → ⊥) → LeftForC a b word o n

-- of what C lends to one call after the other
pub record SameLent (m n : Lent) : Type 0 where
  pub seen : Alike m.log n.log
  pub figures : m.figures ≡ n.figures
  pub ask : m.ask ≡ n.ask
  pub result : m.result ≡ n.result
  pub size : m.size ≡ n.size

pub record SameRunForC (o n : Outcome (List Answer) Lent) : Type 0 where
  pub answers : o.result ≡ n.result
  pub left : SameLent o.left n.left

pub record SameForC : Type 0 where
  pub ask : (s t : List ℕ) → Alike s t → (bs : List ℕ) (address day slot : ℕ) (out : List ℕ)
      → ask_for_c (ask_of bs) (rows.view s) bs address day slot out ≡ ask_for_c (ask_of bs) (columns.view t) bs address day slot out
  pub lapse : (s t : List ℕ) → Alike s t → (bs : List ℕ) → SameLapse (lapse_for_c_in rows (ask_of bs) s bs) (lapse_for_c_in columns (ask_of bs) t bs)
  pub take : (s t : List ℕ) → Alike s t → (figs bs y : List ℕ) (result size : ℕ) → Bytes y
      → SameTake (take_for_c_in rows (ask_of bs) (log_and_rows s figs) bs y result size) (take_for_c_in columns (ask_of bs) (log_and_rows t figs) bs y result size)
  pub fresh : (h : Header) (a b figs : List ℕ) (word : ℕ) → Rooms h a b
      → SameMadeForC a b word (fresh_for_c_in rows h a figs word) (fresh_for_c_in columns h b figs word)
  pub read : (f a b figs : List ℕ) (word : ℕ) → Bytes f → FileRooms f a b
      → SameMadeForC a b word (read_for_c_in rows f a figs word) (read_for_c_in columns f b figs word)
  pub cell : (s t : List ℕ) → Alike s t → (day slot kind : ℕ) (counts : List ℕ) (lapses : ℕ)
      → cell_for_c (rows.view s) day slot kind counts lapses ≡ cell_for_c (columns.view t) day slot kind counts lapses
  pub next-gap : (s t : List ℕ) → Alike s t → (day from slot : ℕ) → next_gap_for_c (rows.view s) day from slot ≡ next_gap_for_c (columns.view t) day from slot
  pub report : (s t : List ℕ) → Alike s t → (figs : List ℕ) (day : ℕ) (row : List ℕ)
      → numbered report_number (report_of (rows.view s).lent figs day row) ≡ numbered report_number (report_of (columns.view t).lent figs day row)
  pub write : (s t : List ℕ) → Alike s t → (out : List ℕ) (word : ℕ)
      → sized write_number file_length (written_file (rows.view s) out) word ≡ sized write_number file_length (written_file (columns.view t) out) word
  -- and so from every list of asks, lapses and replies, each of which is lent what the one before left
  pub run : (m n : Lent) → SameLent m n → (calls : List Call) → AllBytes calls → SameRunForC (run_for_c_in rows m calls) (run_for_c_in columns n calls)
