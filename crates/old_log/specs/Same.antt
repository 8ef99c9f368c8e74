-- An old and a new log. Source: document 02, CR 9: "Show that an old and a new lent log with the same header, cells and day figures, each with the room its
-- layout needs, get the same answers from every call with the same other arguments, and hold the same cells and figures after it." Proofs: `today` and
-- `same-answers`, proofs/Claims.antt.
use Rattle.std.specs.Prelude.{◌≡◌, List, ℕ, ◌≤◌, length, take, Ok, Some, Option}
use Rattle.refusal.specs.Outcome.{Outcome}
use Rattle.byte_numbers.specs.Number.{Bytes}
use Rattle.energy_log.specs.Fresh.{fresh_number}
use Rattle.energy_log.specs.View.{View}
use Rattle.log_header.specs.declared.header.Header.{Header}
use Rattle.day_rows.specs.LogAndRows.{LogAndRows, log_and_rows}
use Rattle.day_rows.specs.Fresh.{fresh_with}
use Rattle.log_file.specs.File.{file_header}
use Rattle.log_file.specs.Read.{read_number, read_file}
use Rattle.log_file.specs.Write.{written_file}
use Rattle.day_report.specs.Report.{report_of}
use Rattle.day_report.specs.Day.{day_text}
use Rattle.day_report.specs.Strip.{strip_text}
use Rattle.logger.specs.Ask.{asked}
use Rattle.logger.specs.Lapse.{lapsed}
use Rattle.logger.specs.Take.{taken}
use Rattle.logger.specs.Book.{Call, Answer, AllBytes}
use Rattle.logger.specs.Run.{State, step}
use Rattle.logger.specs.declared.held.OpenAsk.{OpenAsk}
use Rattle.polling.specs.Fate.{ask_settled}
use Rattle.polling.specs.Next.{next_wanted}
use Rattle.polling.specs.declared.next.Wanted.{Wanted}
use Rattle.old_log.specs.Layout.{rows, columns, lapsed_in, taken_in, settled_in, fresh_in, read_in, step_in, run_in}

-- an old and a new log "with the same header, cells", bad ones among them, and lapses. Each is as long as its layout asks, since a header is only seen then; in
-- bytes that are no log nothing is seen
abbrev pub Alike : List ℕ → List ℕ → Type 0
Alike s t = rows.view s ≡ columns.view t

-- ---- "get the same answers .., and hold the same cells and figures after it"

-- of a call that alters a log
pub record SameLog {A : Type 0} (o n : Outcome A (List ℕ)) : Type 0 where
  pub answer : o.result ≡ n.result
  pub seen : Alike o.left n.left

-- of one that alters a log and its figures
pub record SameBoth {A : Type 0} (o n : Outcome A LogAndRows) : Type 0 where
  pub answer : o.result ≡ n.result
  pub seen : Alike o.left.log n.left.log
  pub figures : o.left.figures ≡ n.left.figures

-- at the front of an old and a new output stand logs with one header, as long as each layout asks, which is the length that is told, and the same is seen of
-- both
pub record Made {A : Type 0} (done : ℕ → A) (o n : Outcome A LogAndRows) : Type 0 where
  pub header : Header
  pub old_told : o.result ≡ done (rows.size header)
  pub new_told : n.result ≡ done (columns.size header)
  pub sound : (columns.view (take (columns.size header) n.left.log)).lent ≡ Some header
  pub seen : Alike (take (rows.size header) o.left.log) (take (columns.size header) n.left.log)

-- of one that makes a log, by the number of its answer: 0 comes with each layout's own length. A refusal leaves both outputs
pub record SameMade {A : Type 0} (number : A → ℕ) (done : ℕ → A) (a b : List ℕ) (o n : Outcome A LogAndRows) : Type 0 where
  pub answer : number o.result ≡ number n.result
  pub figures : o.left.figures ≡ n.left.figures
  pub made : number n.result ≡ 0 → Made done o n
  pub refused : (number n.result ≡ 0 → ⊥) → (o.left.log ≡ a) × (n.left.log ≡ b)

-- of what calls hand on to each other
pub record SameState (s t : State) : Type 0 where
  pub seen : Alike s.log t.log
  pub figures : s.figures ≡ t.figures
  pub held : s.held ≡ t.held

pub record SameRun (o n : Outcome (List Answer) State) : Type 0 where
  pub answers : o.result ≡ n.result
  pub left : SameState o.left n.left

-- "each with the room its layout needs": of a log with this header, and of a file's
pub record Rooms (h : Header) (a b : List ℕ) : Type 0 where
  pub of_rows : rows.size h ≤ length a
  pub of_columns : columns.size h ≤ length b

abbrev pub FileRooms : List ℕ → List ℕ → List ℕ → Type 0
FileRooms f a b = (h : Header) → file_header f ≡ Some h → Rooms h a b

-- the calls over columns are today's, those that the contracts cite
pub record Today : Type 0 where
  pub lapse : (s : List ℕ) (held : Option OpenAsk) → lapsed_in columns s held ≡ lapsed s held
  pub take : (b : LogAndRows) (held : Option OpenAsk) (y : List ℕ) → taken_in columns b held y ≡ taken b held y
  pub settle : (b : LogAndRows) (held : Option OpenAsk) (y : List ℕ) → settled_in columns b held y ≡ ask_settled b held y
  pub fresh : (h : Header) (out figs : List ℕ) → fresh_in columns h out figs ≡ fresh_with h out figs
  pub read : (f out figs : List ℕ) → read_in columns f out figs ≡ read_file f out figs
  pub step : (s : State) (c : Call) → step_in columns s c ≡ step s c

-- "from every call with the same other arguments", refused ones included
pub record SameAnswers : Type 1 where
  pub ask : (s t : List ℕ) → Alike s t → (held : Option OpenAsk) (address day slot : ℕ) (out : List ℕ)
      → asked (rows.view s) held address day slot out ≡ asked (columns.view t) held address day slot out
  pub lapse : (s t : List ℕ) → Alike s t → (held : Option OpenAsk) → SameLog (lapsed_in rows s held) (lapsed_in columns t held)
  pub take : (s t : List ℕ) → Alike s t → (figs : List ℕ) (held : Option OpenAsk) (y : List ℕ) → Bytes y
      → SameBoth (taken_in rows (log_and_rows s figs) held y) (taken_in columns (log_and_rows t figs) held y)
  pub settle : (s t : List ℕ) → Alike s t → (figs : List ℕ) (held : Option OpenAsk) (y : List ℕ) → Bytes y
      → SameBoth (settled_in rows (log_and_rows s figs) held y) (settled_in columns (log_and_rows t figs) held y)
  pub report : (s t : List ℕ) → Alike s t → (figs : List ℕ) (day : ℕ) (row : List ℕ)
      → report_of (rows.view s).lent figs day row ≡ report_of (columns.view t).lent figs day row
  pub text : (s t : List ℕ) → Alike s t → (figs : List ℕ) (day : ℕ) (out : List ℕ)
      → day_text (rows.view s).lent figs day out ≡ day_text (columns.view t).lent figs day out
  pub strip : (s t : List ℕ) → Alike s t → (day : ℕ) (out : List ℕ) → strip_text (rows.view s) day out ≡ strip_text (columns.view t) day out
  pub next : (s t : List ℕ) → Alike s t → (w : Wanted) (day slot : ℕ) → next_wanted w (rows.view s) day slot ≡ next_wanted w (columns.view t) day slot
  -- "Files are unchanged to the byte"
  pub write : (s t : List ℕ) → Alike s t → (out : List ℕ) → written_file (rows.view s) out ≡ written_file (columns.view t) out
  -- any other look at a log goes by its view too: the functions for C that tell a cell and the next gap (`cell_for_c`, `next_gap_for_c`), the console's `cell`
  pub look : (s t : List ℕ) → Alike s t → {A : Type 0} (f : View → A) → f (rows.view s) ≡ f (columns.view t)
  pub fresh : (h : Header) (a b figs : List ℕ) → Rooms h a b → SameMade fresh_number Ok a b (fresh_in rows h a figs) (fresh_in columns h b figs)
  pub read : (f a b figs : List ℕ) → Bytes f → FileRooms f a b → SameMade read_number Ok a b (read_in rows f a figs) (read_in columns f b figs)
  -- and so from every list of asks, lapses and replies, each of which gets what the one before left
  pub run : (s t : State) → SameState s t → (calls : List Call) → AllBytes calls → SameRun (run_in rows s calls) (run_in columns t calls)
