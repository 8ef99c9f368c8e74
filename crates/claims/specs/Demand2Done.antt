-- Demand 2, the other half: that the meter does what it may. Document 01, "Frames": "A command with its own address or address 0 is answered".
-- A meter that refused every command would break no claim of `Demand2`; it breaks these. Proofs: `demand-2-done`, proofs/Claims.antt.
use Rattle.std.specs.Prelude.{◌≡◌, true, List, ℕ, ◌+◌, ◌≤◌, ◌<◌, length}
use Rattle.byte_numbers.specs.Number.{Bytes}
use Rattle.byte_numbers.specs.Place.{byte_at, number_at}
use Rattle.frame.specs.Layout.{parameter_place, bare_size, unlock_size}
use Rattle.parameters.specs.Table.{parameter_of}
use Rattle.parameters.specs.declared.code.Function.TheVariants as function
use Rattle.slots.specs.Day.{slots_of}
use Rattle.request.specs.Request as making
use Rattle.request.specs.Request.{request_frame}
use Rattle.request.specs.Subject.{subject_of, askable}
use Rattle.request.specs.declared.request.Request.{Request}
use Rattle.reader.specs.Reply as decoding
use Rattle.reader.specs.Reply.{decoded_of}
use Rattle.meter_record.specs.Widths.{FitsRecord}
use Rattle.meter_record.specs.declared.record.Record.{Record}
use Rattle.meter_command.specs.Access.{is_main, change_allowed, password_for}
use Rattle.meter_command.specs.Judgement.{argument_fits}
use Rattle.meter_command.specs.Command.{data_in, command_of}
use Rattle.meter_command.specs.declared.access.Met.TheVariants.{Own}
use Rattle.meter.specs.Reply.{is_sound, met, heard, answer_of}
use Rattle.meter_round_trip.specs.Inquiry.{inquired, told}
use Rattle.claims.specs.Demand1.{answer_number}
use Rattle.claims.specs.Demand2.{answered, FitsRequest}
use Rattle.claims.specs.Figures.{own_as}

-- the meter is ready for a frame: room for the reply, its record and store within their ranges, and the frame is one that it hears
pub record Ready (r : Record) (s f out : List ℕ) : Type 0 where
  pub room : 64 ≤ length out
  pub sound : is_sound r s ≡ true
  pub hears : heard r f ≡ true

-- the fields of a request are bytes, as those of every Rattle value are
pub record BytesRequest (q : Request) : Type 0 where
  pub repeated : FitsRequest q
  pub offset : q.offset < 256
  pub tariff : q.tariff < 256
  pub detail : q.detail < 256

-- a record of numbers that fit their widths, with its store and room for the reply, that answers a request with 0
pub record Answerable (q : Request) : Type 0 where
  pub meter : Record
  pub store : List ℕ
  pub out : List ℕ
  pub fits : FitsRecord meter
  pub bytes : Bytes store
  pub answers : answer_number (answered meter store q out) ≡ 0

pub record Demand2Done : Type 0 where
  -- what asks for figures that a meter of its interval has, it answers
  pub read_done : (r : Record) (s : List ℕ) (q : Request) (out : List ℕ) → Ready r s (request_frame q) out
      → askable (subject_of q (slots_of r.minutes)) ≡ true → answer_number (answered r s q out) ≡ 0
  -- the same as one call, `inquire` (that it leaves the store, `Demand1Inquire` says)
  pub inquired_done : (r : Record) (s : List ℕ) (q : Request) (out : List ℕ) → Ready r s (request_frame q) out → FitsRecord r → Bytes s → FitsRequest q
      → askable (subject_of q (slots_of r.minutes)) ≡ true → (inquired r s q out).answer ≡ told (own_as q.reading (parameter_of q.parameter) r s q)
  -- a change and a zeroing of a parameter that can be changed or zeroed, of its length, by the meter's own address, with the access it needs and a
  -- right argument
  pub change_done : (r : Record) (s f out : List ℕ) → let c = command_of f in Ready r s f out → met r f ≡ Own → c.function ≡ function.Change → let w = c.row in
      w.changeable ≡ true → c.length ≡ bare_size + w.change_bytes → change_allowed c.parameter r.protection.level ≡ true
      → argument_fits c.row c.detail r.telemetry (data_in f) ≡ true → answer_number (answer_of r s f out) ≡ 0
  pub zeroing_done : (r : Record) (s f out : List ℕ) → let c = command_of f in Ready r s f out → met r f ≡ Own → c.function ≡ function.Zero
      → c.row.zeroable ≡ true → c.length ≡ bare_size → is_main r.protection.level ≡ true → c.detail ≡ 0
      → answer_number (answer_of r s f out) ≡ 0
  -- the right password of a level that there is opens it
  pub unlock_done : (r : Record) (s f out : List ℕ) → let c = command_of f in Ready r s f out → c.function ≡ function.Unlock → c.length ≡ unlock_size
      → c.detail ≤ 1 → number_at f 4 8 ≡ password_for r.passwords c.detail → byte_at f parameter_place ≡ 0
      → answer_number (answer_of r s f out) ≡ 0
  pub lock_done : (r : Record) (s f out : List ℕ) → let c = command_of f in Ready r s f out → c.function ≡ function.Lock → c.length ≡ bare_size
      → byte_at f parameter_place ≡ 0 → c.detail ≡ 0 → answer_number (answer_of r s f out) ≡ 0
  -- 27 is "a request that no record would answer with 0", where a reply is decoded and where a request is made: exactly that
  pub out_of_range : (q : Request) (y : List ℕ) → decoding.number_of (decoded_of q y) ≡ 27
      → (r : Record) (s out : List ℕ) → answer_number (answered r s q out) ≡ 0 → ⊥
  pub in_range : (q : Request) (y : List ℕ) → BytesRequest q → (decoding.number_of (decoded_of q y) ≡ 27 → ⊥) → Answerable q
  pub out_of_range_made : (q : Request) (frame : List ℕ) → making.number_of (making.requested q frame).result ≡ 27
      → (r : Record) (s out : List ℕ) → answer_number (answered r s q out) ≡ 0 → ⊥
  pub in_range_made : (q : Request) (frame : List ℕ) → BytesRequest q → making.number_of (making.requested q frame).result ≡ 0 → Answerable q
