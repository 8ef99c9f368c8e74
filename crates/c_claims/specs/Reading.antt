-- Demand 2 of the functions that firmware links: "What the bench meter answers from its record, the reader decodes to the same figures", by `metlazuel_request`,
-- `metlazuel_meter_answer` and `metlazuel_decode` in a row, and with function 4 by `metlazuel_request4` and `metlazuel_decode4`. The record is lent bytes, and the
-- figures come as numbers of a lent row.
--
-- The row is written out here from record and store, number by number; none of the reader's and C's own words for figures is cited. Proofs: `reading`,
-- proofs/Claims.antt.
use Rattle.std.specs.Prelude.{◌≡◌, true, cond, List, [], ◌∷◌, ◌++◌, ◌⊎◌, ℕ, ◌+◌, ◌*◌, ◌≤◌, eqb, length, take, Some}
use Rattle.refusal.specs.Outcome.{Outcome, outcome}
use Rattle.byte_numbers.specs.Number.{Bytes}
use Rattle.byte_numbers.specs.Place.{written}
use Rattle.calendar.specs.declared.time.DateTime.{DateTime}
use Rattle.kilowatt_hours.specs.Bits.{kwh_bits}
use Rattle.slots.specs.Day.{slots_of}
use Rattle.wire_values.specs.Power.{total_of, bits_of}
use Rattle.wire_values.specs.declared.mask.DisplayMask.{DisplayMask}
use Rattle.wire_values.specs.declared.power.Phases.{Phases}
use Rattle.wire_values.specs.declared.telemetry.Telemetry.{Telemetry}
use Rattle.parameters.specs.Table.{parameter_of}
use Rattle.parameters.specs.declared.code.Parameter.{Parameter}
use Rattle.parameters.specs.declared.code.Parameter.TheVariants as parameter
use Rattle.parameters.specs.declared.code.Reading.{Reading}
use Rattle.parameters.specs.declared.code.Reading.TheVariants.{Stored, Displayed}
use Rattle.request.specs.Request.{request_frame, requested, number_of}
use Rattle.request.specs.Subject.{subject_of, askable}
use Rattle.request.specs.declared.request.Request.{Request}
use Rattle.meter_store.specs.Store.{key_of, slice_of, count_at}
use Rattle.meter_record.specs.declared.record.Ratios.{Ratios}
use Rattle.meter_record.specs.declared.record.Record.{Record}
use Rattle.meter_record_bytes.specs.Record.{record_of}
use Rattle.meter_reply_data.specs.Reading.{summer_shown, winter_shown}
use Rattle.meter.specs.Reply.{is_sound}
use Rattle.claims.specs.Demand2.{FitsRequest}
use Rattle.claims.specs.Demand2Done.{BytesRequest}
use Rattle.metlazuel.specs.Calls.{numbered}
use Rattle.metlazuel.specs.MeterCalls.{answer_for_c}
use Rattle.metlazuel.specs.WireCalls.{decode_for_c}

-- ---- a record's own figures, as the numbers that C is given

-- "detail 0 answers the total and A, B, C, details 1 to 3 one phase", each as the bits of its float
unfoldable pub phase_bits : Phases → ℕ → ℕ
phase_bits p detail = bits_of (cond (eqb detail 1) p.a (cond (eqb detail 2) p.b p.c))

unfoldable pub power_numbers : Phases → ℕ → List ℕ
power_numbers p detail =
    cond (eqb detail 0) (bits_of (total_of p) ∷ bits_of p.a ∷ bits_of p.b ∷ bits_of p.c ∷ []) (phase_bits p detail ∷ [])

-- "pulses K (4 bytes), Ke (2), reserve"; "Display mask: 4 + 1 + 1 bytes"; a date and time, the year from 2000 on
abbrev pub telemetry_numbers : Telemetry → List ℕ
telemetry_numbers t = t.k ∷ t.ke ∷ t.reserve ∷ []

abbrev pub mask_numbers : DisplayMask → List ℕ
mask_numbers m = m.parameters ∷ m.tariffs ∷ m.directions ∷ []

abbrev pub time_numbers : DateTime → List ℕ
time_numbers t = t.date.year ∷ t.date.month ∷ t.date.day ∷ t.hour ∷ t.minute ∷ t.second ∷ []

-- the store's slice with a number, of a request's month and day ("in place of offset, tariff"): E+, E-, R+, R-
abbrev pub slice_numbers : List ℕ → Request → ℕ → List ℕ
slice_numbers s q number =
    let slice = slice_of s (key_of q.offset q.tariff number) in
    count_at slice 0 ∷ count_at slice 1 ∷ count_at slice 2 ∷ count_at slice 3 ∷ []

-- "four 32-bit floats in kilowatt-hours: the exact figure is N x Ke x KI x KU / 1,000,000" (document 02, request 3), each as its bits
abbrev pub energy_numbers : ℕ → Ratios → List ℕ → List ℕ
energy_numbers ke k slice =
    kwh_bits (count_at slice 0 * ke * k.ki * k.ku) ∷ kwh_bits (count_at slice 1 * ke * k.ki * k.ku) ∷ kwh_bits (count_at slice 2 * ke * k.ki * k.ku)
    ∷ kwh_bits (count_at slice 3 * ke * k.ki * k.ku) ∷ []

-- a parameter a line
unfoldable pub stored_numbers : Parameter → Record → List ℕ → Request → List ℕ
stored_numbers parameter.ActivePower r s q = power_numbers r.active q.detail
stored_numbers parameter.ReactivePower r s q = power_numbers r.reactive q.detail
stored_numbers parameter.Address r s q = r.address ∷ []
stored_numbers parameter.Telemetry r s q = telemetry_numbers r.telemetry
stored_numbers parameter.SummerDate r s q = time_numbers (summer_shown r.time)
stored_numbers parameter.WinterDate r s q = time_numbers (winter_shown r.time)
stored_numbers parameter.Clock r s q = time_numbers r.time.clock
stored_numbers parameter.DisplayMask r s q = mask_numbers r.mask
stored_numbers parameter.Slice r s q = slice_numbers s q q.detail
stored_numbers parameter.SixSlices r s q =
    let n = q.detail in
    slice_numbers s q n
    ++ (slice_numbers s q (n + 1) ++ (slice_numbers s q (n + 2) ++ (slice_numbers s q (n + 3) ++ (slice_numbers s q (n + 4) ++ slice_numbers s q (n + 5)))))
stored_numbers parameter.Password r s q = []
stored_numbers parameter.Unknown r s q = []

-- by the function that the request is read with
unfoldable pub numbers_as : Reading → Parameter → Record → List ℕ → Request → List ℕ
numbers_as Stored p r s q = stored_numbers p r s q
numbers_as Displayed p r s q = energy_numbers r.telemetry.ke r.ratios (slice_of s (key_of q.offset q.tariff q.detail))

abbrev pub own_numbers : Record → List ℕ → Request → List ℕ
own_numbers r s q = numbers_as q.reading (parameter_of q.parameter) r s q

-- ---- three calls in a row: the request made, the meter's answer to the frame that it wrote, and that reply decoded against the request

abbrev pub making : Request → List ℕ → Outcome ℕ (List ℕ)
making q room = numbered number_of (requested q room)

abbrev pub answering : List ℕ → List ℕ → List ℕ → List ℕ → ℕ → Outcome ℕ (ℕ × List ℕ × List ℕ × List ℕ)
answering bs s frame out word = answer_for_c (record_of bs) word bs s frame out

abbrev pub decoding : Request → Outcome ℕ (ℕ × List ℕ × List ℕ × List ℕ) → List ℕ → ℕ → ℕ → ℕ → Outcome ℕ (ℕ × ℕ × ℕ × List ℕ)
decoding q o row count result size = decode_for_c q (take o.left.0 o.left.3) row count result size

-- bytes that are read as a sound meter, of an address that is its own or 0, and a request for figures that a meter of its interval has
pub record Asks (bs s : List ℕ) (r : Record) (q : Request) : Type 0 where
  pub bytes : Bytes bs
  pub meter : record_of bs ≡ Some r
  pub store_bytes : Bytes s
  pub sound : is_sound r s ≡ true
  pub by : (q.address ≡ r.address) ⊎ (q.address ≡ 0)
  pub fields : BytesRequest q
  pub there : askable (subject_of q (slots_of r.minutes)) ≡ true

-- the meter answers 0, and its record's bytes and its store stay
pub record Answers (o : Outcome ℕ (ℕ × List ℕ × List ℕ × List ℕ)) (bs s : List ℕ) : Type 0 where
  pub number : o.result ≡ 0
  pub kept : o.left.1 ≡ bs
  pub store : o.left.2 ≡ s

-- 0, the record's own figures at the row's front and how many they are; the words behind `result` and `length` stay
abbrev pub Tells : List ℕ → List ℕ → ℕ → ℕ → Outcome ℕ (ℕ × ℕ × ℕ × List ℕ) → Type 0
Tells figures row result size d = d ≡ outcome 0 (length figures, result, size, written row 0 figures)

pub record ReadForC : Type 0 where
  -- all that is answered with 0, whatever bytes the record is
  pub read : (bs s : List ℕ) (r : Record) (q : Request) (out row : List ℕ) (word count result size : ℕ) → Bytes bs → record_of bs ≡ Some r → Bytes s → FitsRequest q
      → let o = answering bs s (request_frame q) out word in let figures = own_numbers r s q in
      o.result ≡ 0 → length figures ≤ length row → Tells figures row result size (decoding q o row count result size)
  -- and what is asked for is answered with 0
  pub inquired : (bs s : List ℕ) (r : Record) (q : Request) (room out row : List ℕ) (word count result size : ℕ) → Asks bs s r q
      → 8 ≤ length room → 64 ≤ length out → let figures = own_numbers r s q in length figures ≤ length row
      → let m = making q room in let o = answering bs s (take 8 m.left) out word in
      (m.result ≡ 0) × Answers o bs s × Tells figures row result size (decoding q o row count result size)
