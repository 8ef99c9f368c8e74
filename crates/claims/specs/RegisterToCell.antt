-- From the meter's register to the cell: what an ask for a slot brings from the bench meter's store into the slot's cell. Source: document 01, "Slices":
-- "month 1..12, day 1..31, number .. in place of offset, tariff, detail. Data: E+, E-, R+, R-, 2 bytes each. An absent slice answers zeros"; "The reader and
-- the log"; demand 2, "What the bench meter answers from its record, the reader decodes to the same figures".
--
-- Nothing here is said by the log's own words for a date, a request or a row: the date is the calendar's, so many days after the start's; the frame and the
-- reply are written out in bytes; the counts are the store's own. A log that exchanges two counts wherever it names them, or asks for another day, breaks it.
-- It is said once for both intervals, and for every slot that exists, which is said by the calendar too: the hour that the October day has twice "under one key" (document 02, CR 5) is such.
-- Proofs: `register-to-cell`, proofs/Claims.antt.
use Rattle.std.specs.Prelude.{◌≡◌, Bool, true, false, cond, ◌&&◌, List, [], ◌∷◌, ◌++◌, ◌⊎◌, ℕ, ◌+◌, ◌*◌, ◌≤◌, ◌<◌, eqb, leb, ltb, length, take, drop, Some, None}
use Rattle.refusal.specs.Outcome as call
use Rattle.byte_numbers.specs.Number.{Bytes, bytes_of}
use Rattle.frame.specs.Sealing.{framed}
use Rattle.calendar.specs.Date.{is_date, day_number}
use Rattle.calendar.specs.Sunday.{last_sunday}
use Rattle.calendar.specs.declared.date.Date.{Date}
use Rattle.slots.specs.Day.{slots_of}
use Rattle.meter_store.specs.Store.{key_of, slice_of, count_at}
use Rattle.meter_record.specs.Widths.{FitsRecord}
use Rattle.meter_record.specs.declared.record.Record.{Record}
use Rattle.meter.specs.Reply.{Outcome, is_sound, answer_of}
use Rattle.log_header.specs.Header.{is_header, sound_of}
use Rattle.energy_log.specs.View.{view_of}
use Rattle.log_cell.specs.declared.cell.Cell.{Cell}
use Rattle.log_cell.specs.declared.cell.Cell.TheVariants.{Gap, Empty, Measured}
use Rattle.log_header.specs.declared.header.Header.{Header}
use Rattle.day_rows.specs.LogAndRows.{LogAndRows}
use Rattle.day_rows.specs.Rows.{Right}
use Rattle.logger.specs.Ask as Ask
use Rattle.logger.specs.Take as Take
use Rattle.logger.specs.Ask.{Asked}
use Rattle.logger.specs.Take.{Taken}
use Rattle.logger.specs.Held.{opened_for}
use Rattle.claims.specs.Demand1.{answer_number}
use Rattle.claims.specs.Demand2.{reply_in}
use Rattle.claims.specs.Changes.{Leaves}

-- ---- the cell that a slice makes

-- whether a slice's four counts are all zero
unfoldable pub all_zero : List ℕ → Bool
all_zero row = eqb (count_at row 0) 0 && eqb (count_at row 1) 0 && eqb (count_at row 2) 0 && eqb (count_at row 3) 0

-- measured with E+, E-, R+, R- as the store has them
abbrev pub measured_by : List ℕ → Cell
measured_by row = Measured (count_at row 0) (count_at row 1) (count_at row 2) (count_at row 3)

-- "One with result 0 turns a gap or empty cell into empty (all zeros) or measured"; a measured one stays
unfoldable pub cell_after : Cell → List ℕ → Cell
cell_after Gap row = cond (all_zero row) Empty (measured_by row)
cell_after Empty row = cond (all_zero row) Empty (measured_by row)
cell_after (Measured e+ e- r+ r-) row = Measured e+ e- r+ r-

-- whether four counts are a slice's
unfoldable pub are_counts : ℕ → ℕ → ℕ → ℕ → List ℕ → Bool
are_counts e+ e- r+ r- row = eqb e+ (count_at row 0) && eqb e- (count_at row 1) && eqb r+ (count_at row 2) && eqb r- (count_at row 3)

-- "On a measured cell, zeros or equal counts leave it, answer 0; other nonzero counts answer 25"
unfoldable pub number_after : Cell → List ℕ → ℕ
number_after Gap row = 0
number_after Empty row = 0
number_after (Measured e+ e- r+ r-) row = cond (all_zero row) 0 (cond (are_counts e+ e- r+ r- row) 0 25)

-- ---- the bytes on the wire

-- 002, figure 17: address, 3, 36, month, day, number of the slice, CRC
unfoldable pub slice_frame : ℕ → Date → ℕ → List ℕ
slice_frame address d slot = framed (address ∷ 3 ∷ 36 ∷ d.month ∷ d.day ∷ slot ∷ [])

-- "A reply repeats the command's address, function and parameter, then a result byte, then the data": 002, figure 18, "E+, E-, R+, R-, 2 bytes each"
unfoldable pub slice_answer : ℕ → List ℕ → List ℕ
slice_answer address row =
    framed (address ∷ 3 ∷ 36 ∷ 0 ∷ (bytes_of 2 (count_at row 0) ++ (bytes_of 2 (count_at row 1) ++ (bytes_of 2 (count_at row 2) ++ bytes_of 2 (count_at row 3)))))

-- the store's slice of a date's month and day and of a slot's number
abbrev pub slice_on : List ℕ → Date → ℕ → List ℕ
slice_on store d slot = slice_of store (key_of d.month d.day slot)

-- ---- who takes part

-- a date is that of a day of the log: the calendar's, so many days after the start's
pub record OnDay (h : Header) (day : ℕ) (date : Date) : Type 0 where
  pub valid : is_date date ≡ true
  pub later : day_number date ≡ day_number h.start + day

-- "Where seasons are followed" (document 02, CR 5): whether a slot of a date begins between 02:00 and 03:00 on the last Sunday of a month
unfoldable pub in_night : ℕ → Header → Date → ℕ → Bool
in_night month h d slot =
    eqb h.seasons 1 && (eqb month d.month && eqb (last_sunday d.year month) d.day && (leb 120 (slot * h.minutes) && ltb (slot * h.minutes) 180))

-- "the March day has no time between 02:00 and 03:00"; "The October day has that hour twice, under one key"
abbrev pub is_skipped : Header → Date → ℕ → Bool
is_skipped = in_night 3

abbrev pub comes_twice : Header → Date → ℕ → Bool
comes_twice = in_night 10

-- a slot of the log that exists, on its date
pub record SlotOn (h : Header) (day slot : ℕ) (date : Date) : Type 0 where
  pub day_in : day < h.days
  pub slot_in : slot < slots_of h.minutes
  pub there : is_skipped h date slot ≡ false
  pub on : OnDay h day date

-- a sound meter with this interval that an address means: its own, or 0
pub record MeterAt (r : Record) (store : List ℕ) (minutes address : ℕ) : Type 0 where
  pub fits : FitsRecord r
  pub store_bytes : Bytes store
  pub sound : is_sound r store ≡ true
  pub interval : r.minutes ≡ minutes
  pub by : (address ≡ r.address) ⊎ (address ≡ 0)

-- a log with this header and right figures, whose cell with index i is c
pub record LogWith (b : LogAndRows) (h : Header) (i : ℕ) (c : Cell) : Type 0 where
  pub bytes : Bytes b.log
  pub lent : sound_of b.log ≡ Some h
  pub figures : Right h (view_of b.log).cell b.figures
  pub cell : (view_of b.log).cell i ≡ Some c

-- ---- one round: the ask, with none open; the meter's answer to the frame that it made; and that reply, taken with the ask that was left open

abbrev pub asking : List ℕ → ℕ → ℕ → ℕ → List ℕ → call.Outcome Asked (List ℕ)
asking s address day slot room = Ask.asked (view_of s) None address day slot room

abbrev pub answering : Record → List ℕ → call.Outcome Asked (List ℕ) → List ℕ → Outcome
answering r store a out = answer_of r store (take 8 a.left) out

abbrev pub taking : LogAndRows → call.Outcome Asked (List ℕ) → Outcome → call.Outcome Taken LogAndRows
taking b a o = Take.taken b a.result.held (reply_in o)

-- the ask is done and open, and its frame reads that date's slice; "Output past what was written is unchanged"
pub record AskedFor (a : call.Outcome Asked (List ℕ)) (address day slot : ℕ) (date : Date) (room : List ℕ) : Type 0 where
  pub number : Ask.number_of a.result.answer ≡ 0
  pub held : a.result.held ≡ opened_for address day slot
  pub wrote : a.left ≡ slice_frame address date slot ++ drop 8 room

-- the meter answers 0 with its slice in 14 bytes, and changes nothing
pub record AnsweredBy (o : Outcome) (r : Record) (store : List ℕ) (address : ℕ) (row : List ℕ) : Type 0 where
  pub number : answer_number o ≡ 0
  pub size : o.answer.length ≡ 14
  pub reply : reply_in o ≡ slice_answer address row
  pub leaves : Leaves r store o

-- the reply is taken, 0 or 25, the ask is closed, and cell i of the log, which had c, has what the slice makes of it
pub record TakenInto (t : call.Outcome Taken LogAndRows) (h : Header) (i : ℕ) (c : Cell) (row : List ℕ) : Type 0 where
  pub number : Take.number_of t.result.answer ≡ number_after c row
  pub held : t.result.held ≡ None
  pub cell : (view_of t.left.log).cell i ≡ Some (cell_after c row)
  pub lent : sound_of t.left.log ≡ Some h

pub record RegisterToCell : Type 0 where
  -- every day of a log has its date
  pub dated : (h : Header) (day : ℕ) → is_header h ≡ true → day < h.days → (date : Date) × OnDay h day date
  -- the frame that an ask writes, on every day and for every address
  pub asked : (s : List ℕ) (h : Header) (address day slot : ℕ) (date : Date) (room : List ℕ) → sound_of s ≡ Some h → SlotOn h day slot date → 8 ≤ length room
      → AskedFor (asking s address day slot room) address day slot date room
  -- "22 also for a slot that doesn't exist" (CR 5)
  pub skipped : (s : List ℕ) (h : Header) (address day slot : ℕ) (date : Date) (room : List ℕ) → sound_of s ≡ Some h → OnDay h day date
      → is_skipped h date slot ≡ true → 8 ≤ length room → Ask.number_of (asking s address day slot room).result.answer ≡ 22
  -- and what comes of it
  pub joined : (r : Record) (store : List ℕ) (b : LogAndRows) (h : Header) (address day slot : ℕ) (date : Date) (c : Cell) (room out : List ℕ)
      → SlotOn h day slot date → MeterAt r store h.minutes address → let i = day * slots_of h.minutes + slot in LogWith b h i c
      → 8 ≤ length room → 64 ≤ length out
      → let a = asking b.log address day slot room in let o = answering r store a out in let row = slice_on store date slot in
      AnsweredBy o r store address row × TakenInto (taking b a o) h i c row
