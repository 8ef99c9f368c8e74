-- The meter's calls in a list, on the record itself and for C on its bytes, by the definitions that their contracts cite.
use Rattle.std.specs.Prelude.{List, [], ◌∷◌, ℕ, Result}
use Rattle.refusal.specs.Outcome.{Outcome, outcome}
use Rattle.calendar.specs.declared.time.DateTime.{DateTime}
use Rattle.wire_values.specs.declared.telemetry.Telemetry.{Telemetry}
use Rattle.slots.specs.declared.key.Key.{Key}
use Rattle.meter_record.specs.Record.{second_of, set_powers, set_ratios, number_of}
use Rattle.meter_record.specs.declared.record.Record.{Record}
use Rattle.meter_record.specs.declared.record.RecordError.{RecordError}
use Rattle.meter_record_bytes.specs.Record.{record_of}
use Rattle.meter_command.specs.Verdict as verdict
use Rattle.meter.specs.Bench.{slice_put}
use Rattle.meter.specs.Reply.{answer_of}
use Rattle.claims.specs.Demand2Second.{record_after}
use Rattle.metlazuel.specs.MeterCalls.{phases_from, ratios_from, made_in, second_in, powers_in, ratios_in, slice_in, bench_for_c, make_for_c, put_for_c, sent_length, answer_for_c}

-- a call's arguments, without record and store: a new meter's address, minutes, telemetry, clock and season; a power's parameter and the bits of
-- its phases; the ratios; a slice's key and counts; a frame, the output and the word behind `length`
pub data MeterCall : Type 0 where
  make : ℕ → ℕ → Telemetry → DateTime → ℕ → MeterCall
  second : MeterCall
  powers : ℕ → ℕ → ℕ → ℕ → MeterCall
  ratios : ℕ → ℕ → MeterCall
  slice : Key → List ℕ → MeterCall
  frame : List ℕ → List ℕ → ℕ → MeterCall

-- the meter's record, by value or as lent bytes, and its store
pub record Meter (R : Type 0) : Type 0 where
  pub kept : R
  pub store : List ℕ

abbrev pub meter : {R : Type 0} → R → List ℕ → Meter R
meter r s = record { kept = r; store = s }

-- what a call tells: its number, and the word behind `length` and the output where they are lent
pub record Told : Type 0 where
  pub number : ℕ
  pub length : ℕ
  pub output : List ℕ

abbrev pub plain : ℕ → Told
plain n = record { number = n; length = 0; output = [] }

abbrev pub benched : Result Record RecordError → Record → List ℕ → Outcome Told (Meter Record)
benched a r s = outcome (plain (number_of a)) (meter (record_after a r) s)

-- one call on the record, and the same for C on its bytes
unfoldable pub record_step : Meter Record → MeterCall → Outcome Told (Meter Record)
record_step m (make address minutes telemetry clock season) = benched (made_in address minutes telemetry clock season) m.kept m.store
record_step m second = benched (second_of m.kept) m.kept m.store
record_step m (powers n a b c) = benched (set_powers m.kept n (phases_from a b c)) m.kept m.store
record_step m (ratios ki ku) = benched (set_ratios m.kept (ratios_from ki ku)) m.kept m.store
record_step m (slice k row) =
    let o = slice_put m.kept m.store k row in
    benched o.result m.kept o.left
record_step m (frame f out word) =
    let o = answer_of m.kept m.store f out in
    outcome
    (record { number = verdict.number_of o.answer.verdict; length = sent_length o.answer.length word; output = o.out })
    (meter o.answer.after o.store)

unfoldable pub bytes_step : Meter (List ℕ) → MeterCall → Outcome Told (Meter (List ℕ))
bytes_step m (make address minutes telemetry clock season) =
    let o = make_for_c (made_in address minutes telemetry clock season) m.kept in
    outcome (plain o.result) (meter o.left m.store)
bytes_step m second =
    let o = bench_for_c (second_in (record_of m.kept)) m.kept in
    outcome (plain o.result) (meter o.left m.store)
bytes_step m (powers n a b c) =
    let o = bench_for_c (powers_in (record_of m.kept) n (phases_from a b c)) m.kept in
    outcome (plain o.result) (meter o.left m.store)
bytes_step m (ratios ki ku) =
    let o = bench_for_c (ratios_in (record_of m.kept) (ratios_from ki ku)) m.kept in
    outcome (plain o.result) (meter o.left m.store)
bytes_step m (slice k row) =
    let o = put_for_c (slice_in (record_of m.kept) m.store k row) m.kept in
    outcome (plain o.result) (meter o.left.0 o.left.1)
bytes_step m (frame f out word) =
    let o = answer_for_c (record_of m.kept) word m.kept m.store f out in
    outcome (record { number = o.result; length = o.left.0; output = o.left.3 }) (meter o.left.1 o.left.2)

-- a list of calls, each with record and store as the one before left them: all that they tell, and what is left in the end
unfoldable pub meter_run : {R : Type 0} → (Meter R → MeterCall → Outcome Told (Meter R)) → Meter R → List MeterCall → Outcome (List Told) (Meter R)
meter_run step m [] = outcome [] m
meter_run step m (c ∷ calls) =
    let o = step m c in
    let rest = meter_run step o.left calls in
    outcome (o.result ∷ rest.result) rest.left
