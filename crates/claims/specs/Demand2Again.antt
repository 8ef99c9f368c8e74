-- Demand 2, what was written is read: the reader decodes from the meter's next answer what a change wrote, what a zeroing brought back and
-- what the bench put. A meter that answered 0 and did nothing would break these claims. Proofs: `demand-2-again`, proofs/Claims.antt.
use Rattle.std.specs.Prelude.{◌≡◌, true, List, [], ◌∷◌, ℕ, ◌-◌, ◌≤◌, ◌<◌, length, Ok, Result}
use Rattle.byte_numbers.specs.Number.{Bytes}
use Rattle.wire_values.specs.declared.power.Phases.{Phases}
use Rattle.parameters.specs.Table.{parameter_of}
use Rattle.parameters.specs.declared.code.Function.TheVariants as function
use Rattle.parameters.specs.declared.code.Parameter.TheVariants as parameter
use Rattle.parameters.specs.declared.code.Reading.TheVariants.{Stored}
use Rattle.slots.specs.Day.{slots_of}
use Rattle.slots.specs.Key.{is_legal}
use Rattle.slots.specs.declared.key.Key.{Key}
use Rattle.request.specs.Subject.{subject_of, askable}
use Rattle.request.specs.declared.request.Request.{Request}
use Rattle.reader.specs.Reply.{decoded_of, read_figures}
use Rattle.reader.specs.Rows as rows
use Rattle.reader.specs.declared.reply.Decoded.{Decoded}
use Rattle.reader.specs.declared.reply.Decoded.TheVariants as decoded
use Rattle.reader.specs.declared.reply.DecodeError.{DecodeError}
use Rattle.meter_clock.specs.Season.{on_hour, sunday}
use Rattle.meter_store.specs.Store.{store_bytes, count_at, zero_row}
use Rattle.meter_record.specs.Power.{are_powers}
use Rattle.meter_record.specs.Ranges.{is_within}
use Rattle.meter_record.specs.Record.{number_of, set_powers}
use Rattle.meter_record.specs.Widths.{FitsRecord}
use Rattle.meter_record.specs.declared.record.Record.{Record}
use Rattle.meter_command.specs.Command.{data_in, command_of}
use Rattle.meter.specs.Bench.{slice_put}
use Rattle.meter.specs.Reply.{Outcome, is_sound, answer_of}
use Rattle.claims.specs.Demand1.{answer_number}
use Rattle.claims.specs.Demand2.{answered, reply_in}
use Rattle.claims.specs.Demand2Done.{BytesRequest}
use Rattle.claims.specs.Figures.{own_power, four_counts, own_as}

-- reads of a meter by its own address, with function 3: a parameter with a detail, and slices by a key
abbrev pub read_of : Record → ℕ → ℕ → Request
read_of r parameter detail = record { reading = Stored; address = r.address; parameter = parameter; offset = 0; tariff = 0; detail = detail }

abbrev pub slice_read : Record → ℕ → Key → Request
slice_read r parameter k =
    record { reading = Stored; address = r.address; parameter = parameter; offset = k.month; tariff = k.day; detail = k.number }

-- what the reader makes of the meter's answer
abbrev pub read_back : Record → List ℕ → Request → List ℕ → Result Decoded DecodeError
read_back r s q out = decoded_of q (reply_in (answered r s q out))

-- a record and a store whose numbers fit their widths, as those of every Rattle value do, an answer of 0, and room for the next reply
pub record Next (r : Record) (s : List ℕ) (o : Outcome) (out : List ℕ) : Type 0 where
  pub fits : FitsRecord r
  pub bytes : Bytes s
  pub zero : answer_number o ≡ 0
  pub room : 64 ≤ length out

pub record Demand2Again : Type 0 where
  -- a sound meter's own figures, for whatever it has
  pub own : (r : Record) (s : List ℕ) (q : Request) (out : List ℕ) → FitsRecord r → Bytes s → BytesRequest q → 64 ≤ length out
      → is_sound r s ≡ true → q.address ≡ r.address → askable (subject_of q (slots_of r.minutes)) ≡ true
      → read_back r s q out ≡ own_as q.reading (parameter_of q.parameter) r s q
  -- a change of what can be read: the bytes written, decoded, by the address that the meter then has
  pub change_read : (r : Record) (s f out room : List ℕ) → let c = command_of f in Bytes f → c.function ≡ function.Change → c.row.readable ≡ true
      → let o = answer_of r s f out in Next r s o room
      → read_back o.answer.after o.store (read_of o.answer.after c.parameter_byte 0) room ≡ read_figures c.parameter 0 (data_in f)
  -- a zeroing: "brings back the automatic one", which reads as that of the clock's year; "makes all unused", which read as zeros
  pub summer_zeroed : (r : Record) (s f out room : List ℕ) → let c = command_of f in c.function ≡ function.Zero → c.parameter ≡ parameter.SummerDate
      → let o = answer_of r s f out in Next r s o room
      → read_back o.answer.after o.store (read_of o.answer.after 27 0) room ≡ Ok (decoded.DateTime (on_hour (sunday r.time.clock.date.year 3) 2))
  pub winter_zeroed : (r : Record) (s f out room : List ℕ) → let c = command_of f in c.function ≡ function.Zero → c.parameter ≡ parameter.WinterDate
      → let o = answer_of r s f out in Next r s o room
      → read_back o.answer.after o.store (read_of o.answer.after 28 0) room ≡ Ok (decoded.DateTime (on_hour (sunday r.time.clock.date.year 10) 3))
  pub slices_zeroed : (r : Record) (s f out room : List ℕ) (k : Key) → let c = command_of f in c.function ≡ function.Zero → c.parameter ≡ parameter.Slice
      → is_legal k (slots_of r.minutes) ≡ true → let o = answer_of r s f out in Next r s o room
      → read_back o.answer.after o.store (slice_read o.answer.after 36 k) room ≡ Ok (decoded.Slice (four_counts zero_row))
  pub six_zeroed : (r : Record) (s f out room : List ℕ) (k : Key) → let c = command_of f in c.function ≡ function.Zero → c.parameter ≡ parameter.Slice
      → is_legal k (slots_of r.minutes - 5) ≡ true → let o = answer_of r s f out in Next r s o room
      → rows.six_of (rows.reply_data (reply_in (answered o.answer.after o.store (slice_read o.answer.after 40 k) room)))
      ≡ zero_row ∷ zero_row ∷ zero_row ∷ zero_row ∷ zero_row ∷ zero_row ∷ []
  -- "the bench puts slices in": a legal key's is put, and its counts are read
  pub put_done : (r : Record) (s : List ℕ) (k : Key) (row : List ℕ) → is_sound r s ≡ true → is_legal k (slots_of r.minutes) ≡ true
      → number_of (slice_put r s k row).result ≡ 0
  pub put-read : (r x : Record) (s : List ℕ) (k : Key) (row room : List ℕ) → let o = slice_put r s k row in o.result ≡ Ok x
      → FitsRecord x → Bytes o.left → length row ≡ 4 → ((i : ℕ) → count_at row i < 65536) → 64 ≤ length room
      → read_back x o.left (slice_read x 36 k) room ≡ Ok (decoded.Slice (four_counts row))
  -- powers that the bench set, bit for bit: the total and the phases, or one phase
  pub powers_done : (r : Record) (p : Phases) → is_within r ≡ true → are_powers p ≡ true → (number_of (set_powers r 8 p) ≡ 0) × (number_of (set_powers r 9 p) ≡ 0)
  pub active_read : (r x : Record) (p : Phases) (s : List ℕ) (detail : ℕ) (room : List ℕ) → set_powers r 8 p ≡ Ok x
      → FitsRecord x → Bytes s → length s ≡ store_bytes → detail ≤ 3 → 64 ≤ length room → read_back x s (read_of x 8 detail) room ≡ own_power p detail
  pub reactive_read : (r x : Record) (p : Phases) (s : List ℕ) (detail : ℕ) (room : List ℕ) → set_powers r 9 p ≡ Ok x
      → FitsRecord x → Bytes s → length s ≡ store_bytes → detail ≤ 3 → 64 ≤ length room → read_back x s (read_of x 9 detail) room ≡ own_power p detail
