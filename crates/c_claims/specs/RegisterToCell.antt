-- From the meter's register to the cell by the functions that firmware links: `metlazuel_ask`, `metlazuel_meter_answer`, `metlazuel_take` and `metlazuel_cell` in a
-- row, each lent what the one before left, over lent bytes alone. Source: as in claims/specs/RegisterToCell.antt, which says it of the calls in Rattle; document 01,
-- "0 gap, 1 empty, 2 measured, and four counts", "E+, E-, R+, R-".
--
-- The frame, the reply, the ask's bytes and what C is told of the cell are written out. Proofs: `register-to-cell`, proofs/Claims.antt.
use Rattle.std.specs.Prelude.{◌≡◌, true, List, [], ◌∷◌, ◌++◌, ◌⊎◌, ℕ, ◌+◌, ◌*◌, ◌≤◌, ◌<◌, length, take, drop, Some, None}
use Rattle.refusal.specs.Outcome.{Outcome}
use Rattle.byte_numbers.specs.Number.{Bytes}
use Rattle.calendar.specs.declared.date.Date.{Date}
use Rattle.slots.specs.Day.{slots_of}
use Rattle.meter_record.specs.declared.record.Record.{Record}
use Rattle.meter_record_bytes.specs.Record.{record_of}
use Rattle.meter.specs.Reply.{is_sound}
use Rattle.energy_log.specs.View.{view_of}
use Rattle.log_cell.specs.declared.cell.Cell.{Cell}
use Rattle.log_cell.specs.declared.cell.Cell.TheVariants.{Gap, Empty, Measured}
use Rattle.log_header.specs.declared.header.Header.{Header}
use Rattle.day_rows.specs.LogAndRows.{LogAndRows, log_and_rows}
use Rattle.logger.specs.Book.{Call, AllBytes}
use Rattle.c_values.specs.Ask.{ask_of}
use Rattle.claims.specs.RegisterToCell.{cell_after, number_after, slice_frame, slice_answer, slice_on, SlotOn, LogWith}
use Rattle.metlazuel.specs.LogCalls.{ask_for_c, take_for_c}
use Rattle.metlazuel.specs.MeterCalls.{answer_for_c}
use Rattle.metlazuel.specs.CellCalls.{cell_for_c}
use Rattle.c_claims.specs.Demand3.{Lent, ran_for_c, Begins}

-- the words behind `kind` and `counts`
abbrev pub kind_shown : Cell → ℕ
kind_shown Gap = 0
kind_shown Empty = 1
kind_shown (Measured e+ e- r+ r-) = 2

abbrev pub counts_shown : Cell → List ℕ
counts_shown Gap = 0 ∷ 0 ∷ 0 ∷ 0 ∷ []
counts_shown Empty = 0 ∷ 0 ∷ 0 ∷ 0 ∷ []
counts_shown (Measured e+ e- r+ r-) = e+ ∷ e- ∷ r+ ∷ r- ∷ []

-- bytes that are read as a sound meter with this interval that an address means: its own, or 0
pub record MeterBytes (bs : List ℕ) (r : Record) (store : List ℕ) (minutes address : ℕ) : Type 0 where
  pub bytes : Bytes bs
  pub reads : record_of bs ≡ Some r
  pub store_bytes : Bytes store
  pub sound : is_sound r store ≡ true
  pub interval : r.minutes ≡ minutes
  pub by : (address ≡ r.address) ⊎ (address ≡ 0)

-- ---- one round: the ask; the meter's answer to the first 8 bytes that it wrote; the reply, as many bytes as the meter told, taken with the ask's bytes as they
-- were left; and the cell

abbrev pub asking : List ℕ → List ℕ → ℕ → ℕ → ℕ → List ℕ → Outcome ℕ (List ℕ × List ℕ)
asking log bs address day slot room = ask_for_c (ask_of bs) (view_of log) bs address day slot room

abbrev pub answering : List ℕ → List ℕ → Outcome ℕ (List ℕ × List ℕ) → List ℕ → ℕ → Outcome ℕ (ℕ × List ℕ × List ℕ × List ℕ)
answering bs store a out word = answer_for_c (record_of bs) word bs store (take 8 a.left.1) out

abbrev pub taking : LogAndRows → Outcome ℕ (List ℕ × List ℕ) → Outcome ℕ (ℕ × List ℕ × List ℕ × List ℕ) → ℕ → ℕ → Outcome ℕ (ℕ × ℕ × LogAndRows × List ℕ)
taking b a o result size = take_for_c (ask_of a.left.0) b a.left.0 (take o.left.0 o.left.3) result size

abbrev pub telling : Outcome ℕ (ℕ × ℕ × LogAndRows × List ℕ) → ℕ → ℕ → ℕ → List ℕ → ℕ → Outcome ℕ (ℕ × List ℕ × ℕ)
telling t day slot kind counts lapses = cell_for_c (view_of t.left.2.log) day slot kind counts lapses

-- the ask is done, its bytes say which is open, and its frame reads that date's slice
pub record AskedFor (a : Outcome ℕ (List ℕ × List ℕ)) (address day slot : ℕ) (date : Date) (room : List ℕ) : Type 0 where
  pub number : a.result ≡ 0
  pub ask : a.left.0 ≡ 1 ∷ address ∷ day ∷ slot ∷ []
  pub wrote : a.left.1 ≡ slice_frame address date slot ++ drop 8 room

-- the meter answers 0 with its slice in 14 bytes, and its record's bytes and its store stay
pub record AnsweredBy (o : Outcome ℕ (ℕ × List ℕ × List ℕ × List ℕ)) (bs store : List ℕ) (address : ℕ) (row : List ℕ) : Type 0 where
  pub number : o.result ≡ 0
  pub size : o.left.0 ≡ 14
  pub kept : o.left.1 ≡ bs
  pub slices : o.left.2 ≡ store
  pub reply : take 14 o.left.3 ≡ slice_answer address row

-- the reply is taken, 0 or 25, with the words behind `result` and `length` as they were, and none is open
pub record TakenBy (t : Outcome ℕ (ℕ × ℕ × LogAndRows × List ℕ)) (c : Cell) (row : List ℕ) (result size : ℕ) : Type 0 where
  pub number : t.result ≡ number_after c row
  pub result_kept : t.left.0 ≡ result
  pub size_kept : t.left.1 ≡ size
  pub ask : t.left.3 ≡ 0 ∷ 0 ∷ 0 ∷ 0 ∷ []

-- C is told kind and counts of the cell that the slice makes, and the lapses as they were
pub record CellTold (x : Outcome ℕ (ℕ × List ℕ × ℕ)) (c : Cell) (lapses : ℕ) : Type 0 where
  pub number : x.result ≡ 0
  pub kind : x.left.0 ≡ kind_shown c
  pub counts : x.left.1 ≡ counts_shown c
  pub lapsed : x.left.2 ≡ lapses

pub record RegisterToCellC : Type 0 where
  -- what a round asks of a log is met of every cell, after any calls on memory to begin with
  pub met : (m : Lent) (b : Begins m) (calls : List Call) → AllBytes calls → let h = b.start.header in let after = (ran_for_c m calls).left in
      (i : ℕ) → i < h.days * slots_of h.minutes → (c : Cell) × LogWith (log_and_rows after.log after.figures) h i c
  -- and what comes of a round
  pub joined : (bs : List ℕ) (r : Record) (store : List ℕ) (b : LogAndRows) (h : Header) (ask : List ℕ) (address day slot : ℕ) (date : Date) (c : Cell)
      (room out : List ℕ) (word result size : ℕ)
      → SlotOn h day slot date → MeterBytes bs r store h.minutes address → let i = day * slots_of h.minutes + slot in LogWith b h i c
      → ask_of ask ≡ Some None → 8 ≤ length room → 64 ≤ length out → (kind : ℕ) (counts : List ℕ) (lapses : ℕ)
      → let a = asking b.log ask address day slot room in let o = answering bs store a out word in let t = taking b a o result size in
      let row = slice_on store date slot in
      AskedFor a address day slot date room × AnsweredBy o bs store address row × TakenBy t c row result size
      × CellTold (telling t day slot kind counts lapses) (cell_after c row) ((view_of b.log).lapses i)
