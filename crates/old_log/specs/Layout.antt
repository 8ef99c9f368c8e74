-- A layout of the log in memory, and the calls over one: the old and today's differ in their layout alone. Source: document 02, CR 9: "Files are unchanged to
-- the byte. Show that an old and a new lent log .. get the same answers from every call".
use Rattle.std.specs.Prelude.{ℕ, ◌&&◌, List, [], ◌∷◌, leb, eqb, length, Err, Ok, Result, Option}
use Rattle.refusal.specs.Outcome.{Outcome, outcome, check}
use Rattle.byte_numbers.specs.Place.{written}
use Rattle.frame.specs.Sealing.{crc_fits}
use Rattle.log_header.specs.Header.{header_size, is_header, cells_of, length_of, mark_right, version_at, if_right}
use Rattle.energy_log.specs.Image.{applied, image_of}
use Rattle.energy_log.specs.View.{View, view_of}
use Rattle.energy_log.specs.Fresh.{gaps, no_lapses}
use Rattle.log_header.specs.declared.header.Header.{Header}
use Rattle.log_cell.specs.declared.cell.Cell.{Cell}
use Rattle.energy_log.specs.declared.image.Change.{Change}
use Rattle.energy_log.specs.declared.fresh.FreshError.{FreshError}
use Rattle.energy_log.specs.declared.fresh.FreshError.TheVariants as fresh
use Rattle.day_rows.specs.Rows.{all_figures, all_gaps}
use Rattle.day_rows.specs.LogAndRows.{LogAndRows, log_and_rows, enough}
use Rattle.log_file.specs.Row.{row_at, lapses_in}
use Rattle.log_file.specs.File.{is_version, file_header, file_length_as, cells_in, cells_right}
use Rattle.log_file.specs.Read.{mark_size}
use Rattle.log_file.specs.declared.read.ReadError.{ReadError}
use Rattle.log_file.specs.declared.read.ReadError.TheVariants.{WrongMark, WrongVersion, WrongHeader, WrongLength, WrongCrc, WrongCell, TooShort}
use Rattle.logger.specs.Ask as Ask
use Rattle.logger.specs.Lapse as Lapse
use Rattle.logger.specs.Take as Take
use Rattle.logger.specs.Book.{Call, ask, lapse, reply, Answer, plain, run_of}
use Rattle.logger.specs.Run.{State, state, take_answer}
use Rattle.logger.specs.declared.held.OpenAsk.{OpenAsk}
use Rattle.logger.specs.Lapse.{Lapsed}
use Rattle.logger.specs.Take.{Taken}
use Rattle.polling.specs.Fate.{fate_of, fate_lapsed}
use Rattle.polling.specs.declared.fate.Fate.TheVariants as fate
use Rattle.polling.specs.declared.fate.Settled.{Settled}
use Rattle.old_log.specs.OldRows as old

-- what is seen of lent bytes, what a change does to them, "the room its layout needs", and the image of a header, its cells and their lapses
pub record Layout : Type 0 where
  pub view : List ℕ → View
  pub after : Change → List ℕ → List ℕ
  pub size : Header → ℕ
  pub image : Header → List Cell → (ℕ → ℕ) → List ℕ

-- the old one, ten bytes a cell, and today's: "all kinds .., then all E+, all E-, all R+, all R-, then the lapses"
abbrev pub rows : Layout
rows = record { view = old.view_of; after = old.applied; size = old.length_of; image = old.image_of }

abbrev pub columns : Layout
columns = record { view = view_of; after = applied; size = length_of; image = image_of }

-- ---- the calls that alter a log, or make one, each as its definition has it, in a layout; for today's they are those definitions (specs/Same.antt, `Today`)

-- `lapsed` of logger/specs/Lapse.antt
unfoldable pub lapsed_in : Layout → List ℕ → Option OpenAsk → Outcome Lapsed (List ℕ)
lapsed_in l s held =
    let d = Lapse.lapsing (l.view s) held in
    outcome d.answered (l.after d.change s)

-- `taken` of logger/specs/Take.antt
unfoldable pub taken_in : Layout → LogAndRows → Option OpenAsk → List ℕ → Outcome Taken LogAndRows
taken_in l b held y =
    let o = Take.decided (l.view b.log) b.figures held y in
    outcome o.result.answered (log_and_rows (l.after o.result.change b.log) o.left)

-- `ask_settled` of polling/specs/Fate.antt
unfoldable pub heard_in : Layout → LogAndRows → Option OpenAsk → List ℕ → Outcome Settled LogAndRows
heard_in l b held [] = outcome (record { fate = fate.Silent; held = held }) b
heard_in l b held (x ∷ y) =
    let o = taken_in l b held (x ∷ y) in
    outcome (record { fate = fate_of o.result.answer; held = o.result.held }) o.left

unfoldable pub settled_in : Layout → LogAndRows → Option OpenAsk → List ℕ → Outcome Settled LogAndRows
settled_in l b held y =
    let o = heard_in l b held y in
    let z = lapsed_in l o.left.log o.result.held in
    outcome (record { fate = fate_lapsed z.result.answer o.result.fate; held = z.result.held }) (log_and_rows z.left o.left.figures)

-- `fresh_with` of day_rows/specs/Fresh.antt
unfoldable pub fresh_in : Layout → Header → List ℕ → List ℕ → Outcome (Result ℕ FreshError) LogAndRows
fresh_in l h out figs =
    check (is_header h) (outcome (Err fresh.OutOfRange) (log_and_rows out figs)) (
    check (enough h figs) (outcome (Err fresh.TooShort) (log_and_rows out figs)) (
    check (leb (l.size h) (length out)) (outcome (Err fresh.TooShort) (log_and_rows out figs)) (
    outcome (Ok (l.size h)) (log_and_rows (written out 0 (l.image h (gaps (cells_of h)) no_lapses)) (written figs 0 (all_figures h all_gaps))))))

-- `read_file` of log_file/specs/Read.antt
unfoldable pub read_cells_in : Layout → List ℕ → Header → List ℕ → List ℕ → Outcome (Result ℕ ReadError) LogAndRows
read_cells_in l f h out figs =
    check (cells_right h (row_at (version_at f) f) (lapses_in (version_at f) f)) (outcome (Err WrongCell) (log_and_rows out figs)) (
    check (leb (l.size h) (length out)) (outcome (Err TooShort) (log_and_rows out figs)) (
    check (enough h figs) (outcome (Err TooShort) (log_and_rows out figs)) (
    outcome (Ok (l.size h)) (
    log_and_rows (written out 0 (l.image h (cells_in f (cells_of h)) (lapses_in (version_at f) f))) (written figs 0 (all_figures h (row_at (version_at f) f)))))))

unfoldable pub read_fields_in : Layout → List ℕ → List ℕ → List ℕ → Outcome (Result ℕ ReadError) LogAndRows
read_fields_in l f out figs =
    check (leb header_size (length f)) (outcome (Err WrongHeader) (log_and_rows out figs)) (
    if_right (file_header f) (outcome (Err WrongHeader) (log_and_rows out figs)) (λ h.
    check (eqb (length f) (file_length_as (version_at f) h)) (outcome (Err WrongLength) (log_and_rows out figs)) (
    check (crc_fits f) (outcome (Err WrongCrc) (log_and_rows out figs)) (
    read_cells_in l f h out figs))))

unfoldable pub read_in : Layout → List ℕ → List ℕ → List ℕ → Outcome (Result ℕ ReadError) LogAndRows
read_in l f out figs =
    check (leb mark_size (length f) && mark_right f) (outcome (Err WrongMark) (log_and_rows out figs)) (
    check (is_version (version_at f)) (outcome (Err WrongVersion) (log_and_rows out figs)) (
    read_fields_in l f out figs))

-- ---- a list of calls

-- `step` of logger/specs/Run.antt
unfoldable pub step_in : Layout → State → Call → Outcome Answer State
step_in l s (ask address day slot out) =
    let o = Ask.asked (l.view s.log) s.held address day slot out in
    outcome (plain (Ask.number_of o.result.answer)) (state (log_and_rows s.log s.figures) o.result.held)
step_in l s lapse =
    let o = lapsed_in l s.log s.held in
    outcome (plain (Lapse.number_of o.result.answer)) (state (log_and_rows o.left s.figures) o.result.held)
step_in l s (reply y) =
    let o = taken_in l (log_and_rows s.log s.figures) s.held y in
    outcome (take_answer o.result.answer) (state o.left o.result.held)

abbrev pub run_in : Layout → State → List Call → Outcome (List Answer) State
run_in l s calls = run_of (step_in l) s calls
