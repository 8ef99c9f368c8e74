-- Demand 3. "Take a fresh log, or one read from a file, with no ask open. Then come asks, lapses and replies, refused ones included, in
-- any list and whatever bytes the replies hold. Each call that takes the log or the open ask gets it as the calls before left it." Document 02, CR 5:
-- "Demand 3 reads the same over slots that exist": the cells of the others are gaps at the start, and stay so. CR 7: "Demand 3 then fixes it from the
-- history: lapses of asks for that interval, added to what the file held and cut at 255." CR 8: "Demand 3's premise then covers them as it does the log": the
-- figures of each day, which every call that is lent them gets as the calls before left them.
--
-- The calls run by the definitions that the contracts of `put_ask`, `lapse` and `take_reply` cite (`logger/specs/Run.antt`). The history
-- is the plain book's (`logger/specs/Book.antt`), which never sees an image. Proofs: `demand-3`, proofs/Claims.antt.
use Rattle.std.specs.Prelude.{◌≡◌, true, false, List, ◌++◌, ℕ, ◌≤◌, ◌<◌, length, take, drop, get_or, Ok, Some, None}
use Rattle.refusal.specs.Outcome.{Outcome, outcome}
use Rattle.byte_numbers.specs.Number.{Bytes}
use Rattle.byte_numbers.specs.Place.{byte_at}
use Rattle.energy_log.specs.Fresh.{fresh_image}
use Rattle.log_header.specs.Header.{is_header, cells_of, length_of, sound_of}
use Rattle.energy_log.specs.Pair.{pair_of}
use Rattle.energy_log.specs.Image.{OutsideCell, image_of, AllCells, LapsesFit}
use Rattle.log_header.specs.Interval.{exists_at}
use Rattle.log_cell.specs.declared.cell.Cell.{Cell}
use Rattle.log_cell.specs.declared.cell.Cell.TheVariants.{Gap}
use Rattle.log_header.specs.declared.header.Header.{Header}
use Rattle.energy_log.specs.View.{view_of}
use Rattle.day_rows.specs.LogAndRows.{LogAndRows, log_and_rows}
use Rattle.day_rows.specs.Fresh.{fresh_with}
use Rattle.day_rows.specs.Rows.{figures_of, Right, all_figures, all_gaps}
use Rattle.log_file.specs.File.{file_bytes_as}
use Rattle.log_file.specs.Read.{read_file}
use Rattle.logger.specs.Book.{Call, Answer, Book, start_book, book_run, worked_out, lapses_out, CallBytes, AllBytes}
use Rattle.logger.specs.Held.{OpenFor}
use Rattle.logger.specs.Run.{State, state, step, run}
use Rattle.polling.specs.Reached.{Polled}

-- a log with its header right, its cells cells, and the lapses of each index, and its figures
pub record Start (b : LogAndRows) : Type 0 where
  pub header : Header
  pub cells : List Cell
  pub lapses : ℕ → ℕ
  pub right : is_header header ≡ true
  pub count : length cells ≡ cells_of header
  pub each : AllCells cells
  pub fit : LapsesFit lapses
  -- "their cells stay gap" (CR 5): those of slots that do not exist
  pub gaps : (i : ℕ) → i < length cells → exists_at header i ≡ false → get_or cells i Gap ≡ Gap
  -- "also for lapses in a slot that doesn't exist" (CR 7)
  pub quiet : (i : ℕ) → i < length cells → exists_at header i ≡ false → lapses i ≡ 0
  pub image : b.log ≡ image_of header cells lapses
  -- "those that a walk over the cells gives" (CR 8)
  pub figures : Right header (view_of b.log).cell b.figures

-- log and figures with no ask open, and the calls run over them
abbrev pub begin : LogAndRows → State
begin b = state b None

abbrev pub ran : LogAndRows → List Call → Outcome (List Answer) State
ran b calls = run (begin b) calls

-- the calls in the plain book of the start's header and cells, and the log that is worked out afresh from its replies
abbrev pub booked : {b : LogAndRows} → Start b → List Call → Outcome (List Answer) Book
booked start calls = book_run start.header (start_book start.cells start.lapses) calls

abbrev pub log_afresh : {b : LogAndRows} → Start b → List Call → List ℕ
log_afresh start calls =
    let book = (booked start calls).left in
    image_of start.header (worked_out book.kept 0 (cells_of start.header)) (lapses_out book.lapses)

-- cell j is another than the one whose ask is open, if one is
abbrev pub OtherCell : State → ℕ → Type 0
OtherCell s j = (h : Header) (i : ℕ) → sound_of s.log ≡ Some h → OpenFor h s.held i → j ≡ i → ⊥

-- pair j of byte q's bits is none of those that hold it
abbrev pub Elsewhere : State → ℕ → ℕ → Type 0
Elsewhere s q j = (h : Header) (i : ℕ) → sound_of s.log ≡ Some h → OpenFor h s.held i → OutsideCell (cells_of h) i q j

-- what is seen of cell j, and how many asks for it lapsed, is the same in two logs
pub record SameCell (s t : List ℕ) (j : ℕ) : Type 0 where
  pub cell : (view_of s).cell j ≡ (view_of t).cell j
  pub lapses : (view_of s).lapses j ≡ (view_of t).lapses j

pub record Demand3 : Type 0 where
  -- "Take a fresh log, or one read from a file": what `fresh_log` and `read_file` say is done stands at the front of the lent bytes and, with the lent
  -- figures, is a start; and with the room for it, every right header's fresh log and every start's file are done, and stand there
  pub fresh : (h : Header) (out figs : List ℕ) (n : ℕ) → let o = fresh_with h out figs in o.result ≡ Ok n
      → Start (log_and_rows (take n o.left.log) o.left.figures)
  pub file : (f out figs : List ℕ) (n : ℕ) → Bytes f → let o = read_file f out figs in o.result ≡ Ok n
      → Start (log_and_rows (take n o.left.log) o.left.figures)
  pub fresh_had : (h : Header) (out figs : List ℕ) → is_header h ≡ true → length_of h ≤ length out → figures_of h ≤ length figs
      → fresh_with h out figs
      ≡ outcome (Ok (length_of h)) (log_and_rows (fresh_image h ++ drop (length_of h) out) (all_figures h all_gaps ++ drop (figures_of h) figs))
  -- (of each version that can hold it: "version 1 is read as 0", "Versions 1 and 2 are read with zero lapses", document 02, CR 5 and CR 7)
  pub file_had : (v : ℕ) (b : LogAndRows) (out figs : List ℕ) (start : Start b) → let h = start.header in let n = length b.log in
      1 ≤ v → v ≤ 3 → (v ≡ 1 → h.seasons ≡ 0) → (v < 3 → (i : ℕ) → start.lapses i ≡ 0) → n ≤ length out → figures_of h ≤ length figs
      → read_file (file_bytes_as v h start.cells start.lapses) out figs
      ≡ outcome (Ok n) (log_and_rows (b.log ++ drop n out) (all_figures h (view_of b.log).cell ++ drop (figures_of h) figs))
  -- "After every such list the log is byte for byte the one worked out afresh from that history."
  pub log : (b : LogAndRows) (start : Start b) (calls : List Call) → AllBytes calls → (ran b calls).left.log ≡ log_afresh start calls
  -- "Every answer, and the ask left open, are those of document 01's plain book."
  pub answers : (b : LogAndRows) (start : Start b) (calls : List Call) → AllBytes calls → (ran b calls).result ≡ (booked start calls).result
  pub ask-left : (b : LogAndRows) (start : Start b) (calls : List Call) → AllBytes calls → (ran b calls).left.held ≡ (booked start calls).left.held
  -- "None of these calls alters a byte of the log outside the cell whose ask was open before the call", which "then speaks of cells, and of the bits that
  -- hold them" (document 02, CR 9): of a byte of kinds the three other pairs of bits stay too
  pub others : (s : State) (c : Call) (j : ℕ) → CallBytes c → OtherCell s j → SameCell (step s c).left.log s.log j
  pub elsewhere : (s : State) (c : Call) (q j : ℕ) → j < 4 → Elsewhere s q j → pair_of (byte_at (step s c).left.log q) j ≡ pair_of (byte_at s.log q) j
  pub as_long : (s : State) (c : Call) → length (step s c).left.log ≡ length s.log
  -- what the program `poll` promises (`polling/specs/Reached.antt`), whatever the line carried
  pub polled : (b : LogAndRows) (start : Start b) (c : LogAndRows) (p : Polled b c) → c.log ≡ log_afresh start p.reached.calls
