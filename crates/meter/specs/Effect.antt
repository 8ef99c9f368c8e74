-- What a command that is done leaves behind. Source: document 01, "Protection": "each accepted one, and each right password, which sets its
-- own level, starts the 240 again"; "Slices": "Zeroing makes all unused".
use Rattle.std.specs.Prelude.{Bool, false, cond, List, ℕ, eqb}
use Rattle.parameters.specs.Code.{slice}
use Rattle.parameters.specs.Table.{code_of}
use Rattle.parameters.specs.declared.code.Function.{Function}
use Rattle.parameters.specs.declared.code.Parameter.{Parameter}
use Rattle.meter_clock.specs.Protection.{shut, opened}
use Rattle.meter_store.specs.Store.{cleared}
use Rattle.meter_record.specs.declared.record.Record.{Record}
use Rattle.meter_command.specs.Access.{level_for}
use Rattle.meter_record.specs.With.{with_protection}
use Rattle.meter_command.specs.Change.{changed_to, zeroed_to}
use Rattle.meter_command.specs.Command.{data_in}
use Rattle.meter_command.specs.declared.command.Command.{Command}
use Rattle.parameters.specs.declared.code.Function.TheVariants as function

-- the level stays, and has all its seconds
abbrev pub renewed : Record → Record
renewed r = with_protection r (opened r.protection.level)

unfoldable pub after_by : Function → Record → Command → List ℕ → Record
after_by function.Change r c f = renewed (changed_to c.row.code r c.detail (data_in f))
after_by function.Zero r c f = renewed (zeroed_to c.row.code r)
after_by function.Unlock r c f = with_protection r (opened (level_for c.detail))
after_by function.Lock r c f = with_protection r shut
after_by (function.Read reading) r c f = r
after_by function.Unknown r c f = r

-- the record after a command that is done; the frame has its data
unfoldable pub after_of : Record → Command → List ℕ → Record
unfolding after_by
after_of r c f = after_by c.function r c f

abbrev pub is_slice : Parameter → Bool
is_slice p = eqb (code_of p) slice

unfoldable pub clears_by : Function → ℕ → Bool
clears_by function.Zero code = eqb code slice
clears_by (function.Read reading) code = false
clears_by function.Change code = false
clears_by function.Unlock code = false
clears_by function.Lock code = false
clears_by function.Unknown code = false

-- whether a command zeroes the slices
unfoldable pub clears : Command → Bool
unfolding clears_by
clears c = clears_by c.function c.row.code

-- the store after a command that is done
unfoldable pub store_after : List ℕ → Command → List ℕ
unfolding clears
store_after s c = cond (clears c) (cleared s) s
