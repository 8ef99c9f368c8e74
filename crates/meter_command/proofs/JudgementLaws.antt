-- What a command that is done has passed: all of the table's checks, the access it needs among them.
use mathlib.Core.Path.{◌≡◌, refl}
use mathlib.Core.Bool.{Bool, true, false, false≢true}
use mathlib.Core.List.{List}
use Prim.Native.Nat.{ℕ, ◌+◌}
use lib.Dec.{eqb}
use Rattle.slots.specs.Day.{slots_of}
use Rattle.request.specs.Subject.{fields_fit}
use Rattle.meter_record.specs.declared.record.Record.{Record}
use Rattle.parameters.specs.Table.{opens_to, known}
use Rattle.parameters.specs.declared.table.Access.{Access}
use Rattle.meter_clock.specs.Protection.{opened, is_running, is_protection}
use Rattle.meter_clock.specs.declared.protection.Level.{Level}
use Rattle.meter_clock.specs.declared.protection.Level.TheVariants.{Shut, Auxiliary, Main}
use Rattle.parameters.specs.declared.table.Access.TheVariants as access
use Rattle.meter_command.specs.declared.access.Met.{Met}
use Rattle.meter_command.specs.Access.{by_own, is_main, is_open, allows}
use Rattle.meter_command.specs.Judgement.{passed, checked, argument_fits, read_verdict, change_verdict, zero_verdict}
use Rattle.meter_command.specs.Command.{data_in}
use Rattle.meter_command.specs.declared.command.Command.{Command}
use Rattle.meter_command.specs.Verdict.{is_done}

-- the table's six checks, all passed: known, open to the function, of the right length, by its own address, allowed, and an argument that fits
pub record Accepted (k o l w a f : Bool) : Type 0 where
  pub knows : k ≡ true
  pub opens : o ≡ true
  pub length_fits : l ≡ true
  pub own : w ≡ true
  pub allowed : a ≡ true
  pub fits : f ≡ true

-- a verdict is done only where all six checks pass
pub accepted : (k o l w a f : Bool) → is_done (checked k o l w a f) ≡ true → Accepted k o l w a f
unfolding checked passed
accepted false o l w a f h = absurd (false≢true h)
accepted true false l w a f h = absurd (false≢true h)
accepted true true false w a f h = absurd (false≢true h)
accepted true true true false true f h = absurd (false≢true h)
accepted true true true false false f h = absurd (false≢true h)
accepted true true true true false f h = absurd (false≢true h)
accepted true true true true true false h = absurd (false≢true h)
accepted true true true true true true h = record { knows = refl; opens = refl; length_fits = refl; own = refl; allowed = refl; fits = refl }

-- ---- access that a command needs is a level that is open

-- the main level is an open one
pub main_open : (l : Level) → is_main l ≡ true → is_open l ≡ true
main_open Shut h = absurd (false≢true h)
main_open Auxiliary h = refl
main_open Main h = refl

-- a level that allows a change is open
pub allowed-open : (a : Access) (l : Level) → allows a l ≡ true → is_open l ≡ true
allowed-open access.Auxiliary l h = h
allowed-open access.Main l h = main_open l h

-- an open level with all its seconds is a right protection
pub open-runs : (l : Level) → is_open l ≡ true → is_protection (opened l) ≡ true
unfolding is_protection is_running
open-runs Shut h = absurd (false≢true h)
open-runs Auxiliary h = refl
open-runs Main h = refl

-- ---- what a read, a change and a zeroing that are done have passed

-- a read that is done is of a parameter that this function reads, eight bytes long, with fields that the meter's interval has
pub read-accepted : (r : Record) (c : Command) → is_done (read_verdict r c) ≡ true
    → Accepted (known c.row) (opens_to c.request.reading c.row) (eqb c.length 8) true true
    (fields_fit c.row.fields c.request (slots_of r.minutes))
unfolding read_verdict
read-accepted r c h = accepted _ _ _ _ _ _ h

-- a change that is done had the access that its parameter needs, and an argument that fits
pub change-accepted : (met : Met) (r : Record) (c : Command) (f : List ℕ) → is_done (change_verdict met r c f) ≡ true
    → Accepted (known c.row) c.row.changeable (eqb c.length (6 + c.row.change_bytes))
    (by_own met) (allows c.row.access r.protection.level) (argument_fits c.row c.detail r.telemetry (data_in f))
unfolding change_verdict
change-accepted met r c f h = accepted _ _ _ _ _ _ h

-- a zeroing that is done had the main level, and detail 0
pub zero-accepted : (met : Met) (r : Record) (c : Command) → is_done (zero_verdict met r c) ≡ true
    → Accepted (known c.row) c.row.zeroable (eqb c.length 6) (by_own met) (is_main r.protection.level) (eqb c.detail 0)
unfolding zero_verdict
zero-accepted met r c h = accepted _ _ _ _ _ _ h
