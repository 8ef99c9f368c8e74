-- From the register to the cell, over a whole history: demand 3's asks, lapses and replies, "refused ones included, in any list and whatever bytes the
-- replies hold". What `RegisterToCell` asks of a log holds after any of them; and a cell that was a gap at the start and is measured now holds a slice that
-- came for its date and slot while its ask was open: a meter's, where a meter sent it. Proofs: `metered`, proofs/Claims.antt.
use Rattle.std.specs.Prelude.{◌≡◌, false, List, [], ◌∷◌, ◌++◌, ℕ, ◌+◌, ◌*◌, ◌<◌, Some}
use Rattle.byte_numbers.specs.Number.{Bytes}
use Rattle.calendar.specs.declared.date.Date.{Date}
use Rattle.slots.specs.Day.{slots_of}
use Rattle.meter_store.specs.Store.{count_at}
use Rattle.meter_record.specs.declared.record.Record.{Record}
use Rattle.meter.specs.Reply.{answer_of}
use Rattle.energy_log.specs.View.{view_of}
use Rattle.log_cell.specs.declared.cell.Cell.{Cell}
use Rattle.log_cell.specs.declared.cell.Cell.TheVariants.{Gap, Measured}
use Rattle.log_header.specs.declared.header.Header.{Header}
use Rattle.day_rows.specs.LogAndRows.{LogAndRows, log_and_rows}
use Rattle.logger.specs.Ask as Ask
use Rattle.logger.specs.Book.{Call, ask, reply, AllBytes}
use Rattle.logger.specs.Run.{State, run}
use Rattle.logger.specs.Held.{opened_for}
use Rattle.claims.specs.Demand1.{answer_number}
use Rattle.claims.specs.Demand2.{reply_in}
use Rattle.claims.specs.Demand3.{Start, begin, ran}
use Rattle.claims.specs.RegisterToCell.{all_zero, measured_by, slice_frame, slice_answer, slice_on, SlotOn, LogWith, AskedFor}

-- a slice that came for cell i: some calls; an ask for the cell's slot, which was done and wrote the frame for its date; calls that left that ask open; and then
-- the reply, these bytes and no others
pub record Came (s : State) (h : Header) (calls : List Call) (i : ℕ) (row : List ℕ) : Type 0 where
  pub before : List Call
  pub address : ℕ
  pub day : ℕ
  pub slot : ℕ
  pub date : Date
  pub room : List ℕ
  pub between : List Call
  pub heard : List ℕ
  pub after : List Call
  pub are : calls ≡ before ++ (ask address day slot room ∷ (between ++ (reply heard ∷ after)))
  pub slot_on : SlotOn h day slot date
  pub index : day * slots_of h.minutes + slot ≡ i
  pub asked : let t = (run s before).left in AskedFor (Ask.asked (view_of t.log) t.held address day slot room) address day slot date room
  pub still : (front back : List Call) → between ≡ front ++ back → (run s (before ++ (ask address day slot room ∷ front))).left.held ≡ opened_for address day slot
  pub bytes : heard ≡ slice_answer address row

-- a meter, of some record and store, that answers a frame 0, which a sound one alone does, and with these bytes
pub record Meter (frame heard : List ℕ) : Type 0 where
  pub of : Record
  pub store : List ℕ
  pub out : List ℕ
  pub store_bytes : Bytes store
  pub number : answer_number (answer_of of store frame out) ≡ 0
  pub reply : reply_in (answer_of of store frame out) ≡ heard

-- "the radio hands over a reply for the open ask only": every slice that came is a meter's answer to the frame that its ask wrote. Of other bytes, of lapses and
-- of refusals nothing is asked
abbrev pub FromMeters : State → Header → List Call → Type 0
FromMeters s h calls = (i : ℕ) (row : List ℕ) (m : Came s h calls i row) → Meter (slice_frame m.address m.date m.slot) m.heard

pub record Metered : Type 0 where
  -- what `RegisterToCell` asks of a log, met after any calls, of every cell
  pub met : (b : LogAndRows) (start : Start b) (calls : List Call) → AllBytes calls → let h = start.header in let s = (ran b calls).left in
      (i : ℕ) → i < h.days * slots_of h.minutes → (c : Cell) × LogWith (log_and_rows s.log s.figures) h i c
  -- and such a log is again one to start from, so all that is said of starts is said of it: its file is written and read (`Columns`)
  pub again : (b : LogAndRows) (start : Start b) (calls : List Call) → AllBytes calls → let s = (ran b calls).left in
      (now : Start (log_and_rows s.log s.figures)) × (now.header ≡ start.header)
  -- a gap that is measured after them: its counts came for it
  pub measured : (b : LogAndRows) (start : Start b) (calls : List Call) → AllBytes calls → (i e+ e- r+ r- : ℕ) → (view_of b.log).cell i ≡ Some Gap
      → (view_of (ran b calls).left.log).cell i ≡ Some (Measured e+ e- r+ r-) → Came (begin b) start.header calls i (e+ ∷ e- ∷ r+ ∷ r- ∷ [])
  -- and are a meter's slice of its date and slot, where meters answered
  pub by_meters : (b : LogAndRows) (start : Start b) (calls : List Call) → AllBytes calls → (meters : FromMeters (begin b) start.header calls)
      → (i e+ e- r+ r- : ℕ) → (view_of b.log).cell i ≡ Some Gap → (view_of (ran b calls).left.log).cell i ≡ Some (Measured e+ e- r+ r-)
      → let row = e+ ∷ e- ∷ r+ ∷ r- ∷ [] in
      (m : Came (begin b) start.header calls i row) × (Measured e+ e- r+ r- ≡ measured_by (slice_on (meters i row m).store m.date m.slot))
  -- and the other half: what came and is not all zeros is not lost, the cell is measured
  pub kept : (b : LogAndRows) (start : Start b) (calls : List Call) → AllBytes calls → (i : ℕ) (row : List ℕ) → Came (begin b) start.header calls i row
      → ((k : ℕ) → count_at row k < 65536) → all_zero row ≡ false → (of : List ℕ) × ((view_of (ran b calls).left.log).cell i ≡ Some (measured_by of))
