-- Demand 2 of the functions that firmware links, whose meter's record is lent bytes: what a call leaves is what the next one reads, for any list
-- of calls. So what claims/specs/Demand2.antt says of the record holds of its bytes: "A change happens only with the access it needs, and then
-- changes the named parameter alone, save that protection's 240 seconds start again."
--
-- The calls run by the definitions that their contracts cite (specs/MeterRun.antt). Proofs: `demand-2`, proofs/Claims.antt.
use Rattle.std.specs.Prelude.{◌≡◌, List, [], ◌∷◌, ℕ, ◌^◌, ◌<◌, length, Ok, Some}
use Rattle.refusal.specs.Outcome.{Outcome}
use Rattle.byte_numbers.specs.Number.{Bytes}
use Rattle.calendar.specs.declared.time.DateTime.{DateTime}
use Rattle.wire_values.specs.Telemetry.{FitsTelemetry}
use Rattle.wire_values.specs.declared.telemetry.Telemetry.{Telemetry}
use Rattle.parameters.specs.declared.code.Function.TheVariants as function
use Rattle.meter_record.specs.Widths.{FitsRecord}
use Rattle.meter_record.specs.declared.record.Record.{Record}
use Rattle.meter_record_bytes.specs.Record.{record_size, record_of}
use Rattle.meter_command.specs.Access.{change_allowed}
use Rattle.meter_command.specs.Command.{command_of}
use Rattle.meter.specs.Reply.{answer_of}
use Rattle.claims.specs.Changes.{Permitted}
use Rattle.metlazuel.specs.MeterCalls.{made_in, make_for_c}
use Rattle.c_claims.specs.MeterRun.{MeterCall, make, second, powers, ratios, slice, frame, Meter, meter, record_step, bytes_step, meter_run}

-- the lent bytes are read as the record, whose numbers fit their widths, and the stores are the same
pub record Holds (m : Meter (List ℕ)) (x : Meter Record) : Type 0 where
  pub bytes : record_of m.kept ≡ Some x.kept
  pub widths : FitsRecord x.kept
  pub store : m.store ≡ x.store

-- both end alike: they tell the same, and what is left is held
pub record EndAlike {A : Type 0} (o : Outcome A (Meter (List ℕ))) (p : Outcome A (Meter Record)) : Type 0 where
  pub told : o.result ≡ p.result
  pub left : Holds o.left p.left

-- a new meter's numbers and the ratios fit their widths, as those that C hands over do, and the bytes of a frame are bytes
abbrev pub CallFits : MeterCall → Type 0
CallFits (make address minutes telemetry clock season) = (address < 256) × FitsTelemetry telemetry
CallFits second = Unit
CallFits (powers n a b c) = Unit
CallFits (ratios ki ku) = (ki < 2 ^ 32) × (ku < 2 ^ 32)
CallFits (slice k row) = Unit
CallFits (frame f out word) = Bytes f

abbrev pub AllFit : List MeterCall → Type 0
AllFit [] = Unit
AllFit (c ∷ cs) = CallFits c × AllFit cs

pub record Demand2C : Type 0 where
  -- any bytes that are read as a record are its start
  pub start : (bs s : List ℕ) (r : Record) → Bytes bs → record_of bs ≡ Some r → Holds (meter bs s) (meter r s)
  -- and so is a meter made over 89 bytes, whatever they held
  pub make_start : (address minutes : ℕ) (t : Telemetry) (c : DateTime) (season : ℕ) (bs s : List ℕ) (r : Record) → address < 256 → FitsTelemetry t
      → length bs ≡ record_size → made_in address minutes t c season ≡ Ok r → let o = make_for_c (made_in address minutes t c season) bs in
      (o.result ≡ 0) × Holds (meter o.left s) (meter r s)
  -- what a call leaves is what the next one reads: one call, and any list of them, whatever is answered
  pub call : (m : Meter (List ℕ)) (x : Meter Record) (c : MeterCall) → Holds m x → CallFits c → EndAlike (bytes_step m c) (record_step x c)
  pub list : (m : Meter (List ℕ)) (x : Meter Record) (cs : List MeterCall) → Holds m x → AllFit cs
      → EndAlike (meter_run bytes_step m cs) (meter_run record_step x cs)
  -- "changes the named parameter alone": the bytes after a change that is done are read as the record of which demand 2 says it
  pub change : (m : Meter (List ℕ)) (x : Meter Record) (f out : List ℕ) (word : ℕ) → let c = command_of f in Holds m x → Bytes f → c.function ≡ function.Change
      → (bytes_step m (frame f out word)).result.number ≡ 0 → let o = answer_of x.kept x.store f out in
      (record_of (bytes_step m (frame f out word)).left.kept ≡ Some o.answer.after)
      × Permitted (change_allowed c.parameter x.kept.protection.level) f x.kept x.store o
