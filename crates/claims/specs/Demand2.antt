-- Demand 2. "Frames, replies, protection and parameter changes are those of the SS-301 operator's instruction, as document 01 condenses it.
-- What the bench meter answers from its record, the reader decodes to the same figures. A change happens only with the access it needs, and
-- then changes the named parameter alone, save that protection's 240 seconds start again."
--
-- The meter answers by `answer_of` (meter/specs/Reply.antt), which the contract of `answer` cites: its definitions are the instruction's, page
-- by page. The reader decodes by `decoded_of` (reader/specs/Reply.antt), that of `decode`. Proofs: `demand-2`, proofs/Claims.antt.
use Rattle.std.specs.Prelude.{◌≡◌, true, false, cond, List, ℕ, ◌≤◌, ◌<◌, length, take, Err}
use Rattle.byte_numbers.specs.Number.{Bytes}
use Rattle.byte_numbers.specs.Place.{number_at}
use Rattle.parameters.specs.Table.{parameter_of}
use Rattle.parameters.specs.declared.code.Function.TheVariants as function
use Rattle.parameters.specs.declared.code.Parameter.TheVariants as parameter
use Rattle.parameters.specs.declared.code.Reading.{Reading}
use Rattle.request.specs.Request.{request_frame}
use Rattle.request.specs.Subject.{key_of, subject_of, most_slots, askable}
use Rattle.request.specs.declared.request.Request.{Request}
use Rattle.reader.specs.Reply.{decoded_of}
use Rattle.reader.specs.Rows as rows
use Rattle.reader.specs.declared.reply.DecodeError.TheVariants as decoded_error
use Rattle.meter_clock.specs.Protection.{shut, opened}
use Rattle.meter_store.specs.Store.{six_of, cleared}
use Rattle.meter_record.specs.Widths.{FitsRecord}
use Rattle.meter_record.specs.With.{with_protection}
use Rattle.meter_record.specs.declared.record.Record.{Record}
use Rattle.meter_command.specs.Access.{is_main, change_allowed, password_for, level_for}
use Rattle.meter_command.specs.Command.{command_of}
use Rattle.meter_command.specs.Verdict.{result_of, is_done}
use Rattle.meter.specs.Effect.{is_slice}
use Rattle.meter.specs.Reply.{Outcome, is_sound, heard, verdict_on, answer_of}
use Rattle.meter_round_trip.specs.Inquiry as inquiry
use Rattle.claims.specs.Demand1.{answer_number}
use Rattle.claims.specs.Figures.{own_as}
use Rattle.claims.specs.Changes.{Permitted, Leaves}

-- the meter's answer to a read request, and the bytes of its reply
abbrev pub answered : Record → List ℕ → Request → List ℕ → Outcome
answered r s q out = answer_of r s (request_frame q) out

abbrev pub reply_in : Outcome → List ℕ
reply_in o = take o.answer.length o.out

-- the fields of a request that its reply repeats are bytes, as those of every Rattle value are
pub record FitsRequest (q : Request) : Type 0 where
  pub address : q.address < 256
  pub parameter : q.parameter < 256

pub record Demand2 : Type 0 where
  -- "What the bench meter answers from its record, the reader decodes to the same figures": every reply with result 0, with
  -- function 3 and with function 4; its six rows, which the
  -- reader takes beside the decoding; "24: meter's result not 0; returned"; and all of it as one call, `inquire`
  pub read : (r : Record) (s : List ℕ) (q : Request) (out : List ℕ) → FitsRecord r → Bytes s → FitsRequest q
      → answer_number (answered r s q out) ≡ 0 → decoded_of q (reply_in (answered r s q out)) ≡ own_as q.reading (parameter_of q.parameter) r s q
  pub six_slices : (r : Record) (s : List ℕ) (q : Request) (out : List ℕ) → Bytes s → parameter_of q.parameter ≡ parameter.SixSlices
      → answer_number (answered r s q out) ≡ 0 → rows.six_of (rows.reply_data (reply_in (answered r s q out))) ≡ six_of s (key_of q)
  pub refused : (r : Record) (s : List ℕ) (q : Request) (out : List ℕ) → FitsRequest q → askable (subject_of q most_slots) ≡ true
      → 64 ≤ length out → is_sound r s ≡ true → heard r (request_frame q) ≡ true → is_done (verdict_on r (request_frame q)) ≡ false
      → decoded_of q (reply_in (answered r s q out)) ≡ Err (decoded_error.MeterRefused (result_of (verdict_on r (request_frame q))))
  pub inquired : (r : Record) (s : List ℕ) (q : Request) (out : List ℕ) → FitsRecord r → Bytes s → FitsRequest q
      → let o = inquiry.inquired r s q out in inquiry.number_of o.answer ≡ 0 → o.answer ≡ inquiry.told (own_as q.reading (parameter_of q.parameter) r s q)
  -- the rows that the console says after `inquire`: it hands all of the output to the reader's `six_slices`
  pub inquired_six : (r : Record) (s : List ℕ) (q : Request) (out : List ℕ) → Bytes s → FitsRequest q → parameter_of q.parameter ≡ parameter.SixSlices
      → let o = inquiry.inquired r s q out in inquiry.number_of o.answer ≡ 0 → rows.six_of (rows.reply_data o.out) ≡ six_of s (key_of q)
  -- "A change happens only with the access it needs, and then changes the named parameter alone, save that protection's 240 seconds start
  -- again"; a zeroing needs main access, and that of the slices makes the store empty. What is refused leaves all (demand 1)
  pub change : (r : Record) (s f out : List ℕ) → let c = command_of f in c.function ≡ function.Change → let o = answer_of r s f out in answer_number o ≡ 0
      → Permitted (change_allowed c.parameter r.protection.level) f r s o
  pub zeroing : (r : Record) (s f out : List ℕ) → let c = command_of f in c.function ≡ function.Zero → let o = answer_of r s f out in answer_number o ≡ 0
      → Permitted (is_main r.protection.level) f r (cond (is_slice c.parameter) (cleared s) s) o
  pub change_without_access : (r : Record) (s f out : List ℕ) → let c = command_of f in c.function ≡ function.Change
      → change_allowed c.parameter r.protection.level ≡ false → Leaves r s (answer_of r s f out)
  pub zeroing_without_access : (r : Record) (s f out : List ℕ) → let c = command_of f in c.function ≡ function.Zero
      → is_main r.protection.level ≡ false → Leaves r s (answer_of r s f out)
  -- "each right password, which sets its own level"; "A wrong password changes nothing, an open level included"; protection restored; a read
  pub right_password : (r : Record) (s f out : List ℕ) → let c = command_of f in c.function ≡ function.Unlock → let o = answer_of r s f out in answer_number o ≡ 0
      → (number_at f 4 8 ≡ password_for r.passwords c.detail) × Leaves (with_protection r (opened (level_for c.detail))) s o
  pub wrong_password : (r : Record) (s f out : List ℕ) → let c = command_of f in c.function ≡ function.Unlock
      → (number_at f 4 8 ≡ password_for r.passwords c.detail → ⊥) → Leaves r s (answer_of r s f out)
  pub lock : (r : Record) (s f out : List ℕ) → let c = command_of f in c.function ≡ function.Lock → let o = answer_of r s f out in answer_number o ≡ 0
      → Leaves (with_protection r shut) s o
  pub read_changes_nothing : (reading : Reading) (r : Record) (s f out : List ℕ) → let c = command_of f in c.function ≡ function.Read reading
      → let o = answer_of r s f out in answer_number o ≡ 0 → Leaves r s o
