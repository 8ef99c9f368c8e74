-- Document 02, CR 5, "The night with two half past twos". Which slots do not exist, and which come twice, is said by `exists` and `comes_twice`
-- (`log_header/specs/Interval.antt`). That a history fixes the log byte for byte, from starts whose cells are gaps in such slots, is demand 3's; that a refused call
-- leaves all that it was lent, demand 1's; here stands what becomes of these slots. Proofs: `seasons`, proofs/Claims.antt.
use Rattle.std.specs.Prelude.{◌≡◌, true, false, cond, List, ℕ, ◌+◌, ◌-◌, ◌≤◌, ◌<◌, length, take, get_or, Err, Ok, Option, Some, None}
use Rattle.refusal.specs.Outcome.{outcome}
use Rattle.byte_numbers.specs.Number.{Bytes}
use Rattle.byte_numbers.specs.Place.{byte_at}
use Rattle.frame.specs.Layout.{read_size}
use Rattle.frame.specs.Sealing.{crc_fits}
use Rattle.slots.specs.Day.{slots_of}
use Rattle.season_nights.specs.Night.{is_spring, is_autumn}
use Rattle.season_nights.specs.Run.{hour_of}
use Rattle.log_header.specs.Header.{header_size, cells_of, mark_right, version_at, sound_of}
use Rattle.log_header.specs.Interval.{night_on, exists, exists_at}
use Rattle.energy_log.specs.View.{View, view_of}
use Rattle.log_cell.specs.declared.cell.Cell.{Cell}
use Rattle.log_cell.specs.declared.cell.Cell.TheVariants.{Gap}
use Rattle.log_header.specs.declared.header.Header.{Header}
use Rattle.day_rows.specs.LogAndRows.{LogAndRows, log_and_rows}
use Rattle.day_rows.specs.Rows.{figures_of, walked}
use Rattle.log_file.specs.File.{is_version, file_header, file_length_as, file_length}
use Rattle.log_file.specs.Row.{row_at, lapses_in}
use Rattle.log_file.specs.Write.{written_file}
use Rattle.log_file.specs.Read.{read_file}
use Rattle.log_file.specs.declared.write.WriteError.TheVariants as wrote
use Rattle.log_file.specs.declared.read.ReadError.TheVariants as read
use Rattle.logger.specs.Ask.{asked, answered}
use Rattle.logger.specs.Book.{Call, AllBytes}
use Rattle.logger.specs.Take.{taken}
use Rattle.logger.specs.Lapse.{lapsed}
use Rattle.logger.specs.Held.{opened_for}
use Rattle.logger.specs.declared.no_reply.LapseError.TheVariants as lapse-error
use Rattle.logger.specs.declared.ask.AskError.TheVariants as ask
use Rattle.logger.specs.declared.take.TakeError.TheVariants as take-error
use Rattle.polling.specs.Next.{next_wanted}
use Rattle.polling.specs.declared.next.Wanted.{Wanted}
use Rattle.claims.specs.Demand3.{Start, ran}

-- what the file's reader has passed before a header, and before its cells
pub record Begun (f : List ℕ) : Type 0 where
  pub long : header_size ≤ length f
  pub mark : mark_right f ≡ true
  pub known : is_version (version_at f) ≡ true

pub record Whole (f : List ℕ) (h : Header) : Type 0 where
  pub begun : Begun f
  pub header : file_header f ≡ Some h
  pub size : length f ≡ file_length_as (version_at f) h
  pub crc : crc_fits f ≡ true

-- "a nonexistent slot that isn't a gap" (CR 5), "also for lapses in a slot that doesn't exist" (CR 7): one of the cells
pub record Misplaced (h : Header) (cell : ℕ → Option Cell) (lapses : ℕ → ℕ) : Type 0 where
  pub place : ℕ
  pub among : place < cells_of h
  pub missing : exists_at h place ≡ false
  pub filled : cell place ≡ Some Gap → lapses place ≡ 0 → ⊥

pub record Seasons : Type 0 where
  -- "their cells stay gap in the image", whatever calls come, and count no lapse (CR 7)
  pub stay_gaps : (b : LogAndRows) (start : Start b) (calls : List Call) → AllBytes calls → (i : ℕ) → i < cells_of start.header
      → exists_at start.header i ≡ false → let v = view_of (ran b calls).left.log in (v.cell i ≡ Some Gap) × (v.lapses i ≡ 0)
  -- "can't be asked for": "22 also for a slot that doesn't exist", of an ask, of a reply to one and of its lapse; and a poller asks for none
  pub ask_refused : (v : View) (h : Header) (address day slot : ℕ) (out : List ℕ) → v.lent ≡ Some h → exists h day slot ≡ false → read_size ≤ length out
      → asked v None address day slot out ≡ answered (Err ask.NotInLog) None out
  pub reply_refused : (s figs : List ℕ) (h : Header) (address day slot : ℕ) (y : List ℕ) → sound_of s ≡ Some h → figures_of h ≤ length figs
      → exists h day slot ≡ false
      → taken (log_and_rows s figs) (opened_for address day slot) y ≡ outcome (record { answer = Err take-error.NotInLog; held = opened_for address day slot }) (log_and_rows s figs)
  pub lapse_refused : (s : List ℕ) (h : Header) (address day slot : ℕ) → sound_of s ≡ Some h → exists h day slot ≡ false
      → lapsed s (opened_for address day slot) ≡ outcome (record { answer = Err lapse-error.NotInLog; held = opened_for address day slot }) s
  pub never_polled : (w : Wanted) (v : View) (h : Header) (day from slot : ℕ) → v.lent ≡ Some h → next_wanted w v day from ≡ Some slot
      → exists h day slot ≡ true
  -- "and aren't counted": a day's three tallies make up the slots that it has, an hour less on the March day; and `doubled`, "the lent row's eighth
  -- number", is 0 "on all other days" than the October one, "and without 1". That a report's row is the walk's is CR 8's `reported`
  pub adds_up : (h : Header) (cell : ℕ → Option Cell) (d : ℕ) → ((i : ℕ) → i < cells_of h → (c : Cell) × (cell i ≡ Some c)) → d < h.days
      → let row = walked h cell d in
      get_or row 0 0 + get_or row 1 0 + get_or row 2 0 ≡ slots_of h.minutes - cond (is_spring (night_on h d)) (hour_of h.minutes) 0
  pub none_doubled : (h : Header) (cell : ℕ → Option Cell) (d : ℕ) → is_autumn (night_on h d) ≡ false → get_or (walked h cell d) 7 0 ≡ 0
  -- "version 1 is read as 0": what a file of version 1 gives does not follow the seasons; that every start's that does not is read is demand 3's `file_had`
  pub first_version : (f out figs : List ℕ) (n : ℕ) (h : Header) → Bytes f → version_at f ≡ 1 → let o = read_file f out figs in o.result ≡ Ok n
      → sound_of (take n o.left.log) ≡ Some h → h.seasons ≡ 0
  -- "32 for another header byte (version 1: any but 0)"
  pub other_byte : (f out figs : List ℕ) → Begun f → 1 < byte_at f 12 → read_file f out figs ≡ outcome (Err read.WrongHeader) (log_and_rows out figs)
  pub first_byte : (f out figs : List ℕ) → Begun f → version_at f ≡ 1 → (byte_at f 12 ≡ 0 → ⊥) → read_file f out figs ≡ outcome (Err read.WrongHeader) (log_and_rows out figs)
  -- "35 for a nonexistent slot that isn't a gap; 28 where a cell that 35 so refuses is written out": both before any output, and with lapses too (CR 7)
  pub misplaced_read : (f out figs : List ℕ) (h : Header) → Whole f h → Misplaced h (row_at (version_at f) f) (lapses_in (version_at f) f)
      → read_file f out figs ≡ outcome (Err read.WrongCell) (log_and_rows out figs)
  pub misplaced_written : (v : View) (h : Header) (out : List ℕ) → v.lent ≡ Some h → Misplaced h v.cell v.lapses → file_length h ≤ length out
      → written_file v out ≡ outcome (Err wrote.Unsound) out
