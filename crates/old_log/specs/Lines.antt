-- The console's lines over an old and a new log. Source: document 02, CR 9: "get the same answers from every call with the same other arguments, and hold the
-- same cells and figures after it". The console keeps an image with the log at its front, the log's length, its figures and the open ask, and a line is what a
-- person types. Proofs: `today-lines` and `same_lines`, proofs/Claims.antt.
use Rattle.std.specs.Prelude.{◌≡◌, cond, List, [], ◌∷◌, ℕ, ◌≤◌, eqb, ltb, length, take, replicate, None, Option, Some}
use Rattle.refusal.specs.Outcome.{Outcome, outcome}
use Rattle.byte_numbers.specs.Number.{Bytes}
use Rattle.frame.specs.Layout.{read_size}
use Rattle.day_rows.specs.LogAndRows.{LogAndRows, log_and_rows}
use Rattle.log_file.specs.Read.{read_file}
use Rattle.logger.specs.Ask.{asked}
use Rattle.console.specs.Line.{part_of, spaces_in}
use Rattle.console.specs.Form.{is_form, byte_in, short_in, year_of}
use Rattle.console_log.specs.Words.{reply_read}
use Rattle.console_log.specs.Log.{with_ask, new_log, loaded_log, header_in, fresh_line, ask_line, ask_lapsed, lapse_line, reply_taken, reply_line}
use Rattle.console_log.specs.declared.logs.ConsoleLog.{ConsoleLog}
use Rattle.old_log.specs.Layout.{Layout, rows, columns, lapsed_in, taken_in, fresh_in, read_in}
use Rattle.old_log.specs.Same.{Alike, Rooms, FileRooms}

-- ---- the lines in a layout, each as its definition in console_log/specs/Log.antt has it

unfoldable pub fresh_year : Layout → Option ℕ → List ℕ → LogAndRows → ConsoleLog → Outcome ConsoleLog LogAndRows
fresh_year l (Some year) line b kept = new_log kept (fresh_in l (header_in line year) b.log b.figures)
fresh_year l None line b kept = outcome kept b

unfoldable pub fresh_line_in : Layout → List ℕ → LogAndRows → ConsoleLog → Outcome ConsoleLog LogAndRows
fresh_line_in l line b kept =
    cond (is_form line (65535 ∷ 255 ∷ 255 ∷ 255 ∷ 255 ∷ 65535 ∷ 255 ∷ [])) (fresh_year l (year_of (short_in line 1)) line b kept) (outcome kept b)

-- the bytes of a file
abbrev pub loaded_in : Layout → List ℕ → LogAndRows → ConsoleLog → Outcome ConsoleLog LogAndRows
loaded_in l f b kept = loaded_log kept (read_in l f b.log b.figures)

unfoldable pub ask_line_in : Layout → List ℕ → List ℕ → ConsoleLog → ConsoleLog
ask_line_in l line image kept =
    cond (is_form line (255 ∷ 255 ∷ 255 ∷ []))
    (with_ask kept (asked (l.view (part_of kept.length image)) kept.held (byte_in line 1) (byte_in line 2) (byte_in line 3) (replicate read_size 0)).result.held)
    kept

unfoldable pub lapse_line_in : Layout → List ℕ → List ℕ → ConsoleLog → Outcome ConsoleLog (List ℕ)
lapse_line_in l line image kept =
    cond (eqb (spaces_in line) 0)
    (cond (ltb (length image) kept.length) (outcome kept image) (ask_lapsed image kept (lapsed_in l (take kept.length image) kept.held)))
    (outcome kept image)

unfoldable pub reply_bytes : Layout → Option ℕ → List ℕ → LogAndRows → ConsoleLog → Outcome ConsoleLog LogAndRows
reply_bytes l (Some n) buffer b kept =
    cond (ltb (length b.log) kept.length) (outcome kept b)
    (reply_taken b kept (taken_in l (log_and_rows (take kept.length b.log) b.figures) kept.held (part_of n buffer)))
reply_bytes l None buffer b kept = outcome kept b

unfoldable pub reply_line_in : Layout → List ℕ → LogAndRows → ConsoleLog → Outcome ConsoleLog LogAndRows
reply_line_in l line b kept =
    let o = reply_read line 1 (replicate 2048 0) in
    reply_bytes l o.result o.left b kept

-- over columns they are today's
pub record TodayLines : Type 0 where
  pub fresh : (line : List ℕ) (b : LogAndRows) (kept : ConsoleLog) → fresh_line_in columns line b kept ≡ fresh_line line b kept
  pub load : (f : List ℕ) (b : LogAndRows) (kept : ConsoleLog) → loaded_in columns f b kept ≡ loaded_log kept (read_file f b.log b.figures)
  pub ask : (line image : List ℕ) (kept : ConsoleLog) → ask_line_in columns line image kept ≡ ask_line line image kept
  pub lapse : (line image : List ℕ) (kept : ConsoleLog) → lapse_line_in columns line image kept ≡ lapse_line line image kept
  pub reply : (line : List ℕ) (b : LogAndRows) (kept : ConsoleLog) → reply_line_in columns line b kept ≡ reply_line line b kept

-- ---- "get the same answers .., and hold the same cells and figures after it"

-- the logs at the front of an old and a new image, each as long as is kept, are alike, and the same ask is open
pub record SameKept (a : List ℕ) (k : ConsoleLog) (b : List ℕ) (j : ConsoleLog) : Type 0 where
  pub old_room : k.length ≤ length a
  pub new_room : j.length ≤ length b
  pub seen : Alike (take k.length a) (take j.length b)
  pub held : k.held ≡ j.held

-- and the figures are the same
pub record SameLine (o n : Outcome ConsoleLog LogAndRows) : Type 0 where
  pub kept : SameKept o.left.log o.result n.left.log n.result
  pub figures : o.left.figures ≡ n.left.figures

-- "each with the room its layout needs": for the log of a line's numbers
abbrev pub LineRooms : List ℕ → List ℕ → List ℕ → Type 0
LineRooms line a b = (year : ℕ) → year_of (short_in line 1) ≡ Some year → Rooms (header_in line year) a b

-- every line that alters the log or the ask, one that cannot be read too
pub record SameLines : Type 0 where
  pub fresh : (line a b figs : List ℕ) (k j : ConsoleLog) → SameKept a k b j → LineRooms line a b
      → SameLine (fresh_line_in rows line (log_and_rows a figs) k) (fresh_line_in columns line (log_and_rows b figs) j)
  pub load : (f a b figs : List ℕ) (k j : ConsoleLog) → SameKept a k b j → Bytes f → FileRooms f a b
      → SameLine (loaded_in rows f (log_and_rows a figs) k) (loaded_in columns f (log_and_rows b figs) j)
  pub ask : (line a b : List ℕ) (k j : ConsoleLog) → SameKept a k b j → SameKept a (ask_line_in rows line a k) b (ask_line_in columns line b j)
  pub lapse : (line a b : List ℕ) (k j : ConsoleLog) → SameKept a k b j → let o = lapse_line_in rows line a k in let n = lapse_line_in columns line b j in
      SameKept o.left o.result n.left n.result
  pub reply : (line a b figs : List ℕ) (k j : ConsoleLog) → SameKept a k b j
      → SameLine (reply_line_in rows line (log_and_rows a figs) k) (reply_line_in columns line (log_and_rows b figs) j)
