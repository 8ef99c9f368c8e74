-- What becomes of a command. Source: document 01, "Refusal numbers": "Checks run in the table's order"; document 02, CR 6: "16, after 13 and
-- before 14".
use Rattle.meter_command.specs.declared.verdict.Refusal.{Refusal}
use Rattle.std.specs.Prelude.{Bool, true, cond, ◌&&◌, List, ℕ, ◌+◌, eqb, Err, Ok, Result}
use Rattle.frame.specs.Layout.{read_size, bare_size}
use Rattle.parameters.specs.Table.{opens_to, known}
use Rattle.parameters.specs.declared.table.Row.{Row}
use Rattle.wire_values.specs.declared.telemetry.Telemetry.{Telemetry}
use Rattle.parameters.specs.declared.code.Function.{Function}
use Rattle.slots.specs.Day.{slots_of}
use Rattle.request.specs.Subject.{fields_fit}
use Rattle.meter_record.specs.declared.record.Record.{Record}
use Rattle.parameters.specs.declared.code.Function.TheVariants as function
use Rattle.meter_command.specs.Access.{by_own, is_main, allows, unlock_verdict, lock_verdict}
use Rattle.meter_command.specs.Change.{detail_fits, data_fits}
use Rattle.meter_command.specs.Command.{data_in}
use Rattle.meter_command.specs.declared.command.Command.{Command}
use Rattle.meter_command.specs.declared.access.Met.{Met}
use Rattle.meter_command.specs.declared.verdict.Refusal.TheVariants.{UnknownFunction, UnknownParameter, NotOpen, WrongLength}
use Rattle.meter_command.specs.declared.verdict.Refusal.TheVariants.{ByAddressZero, NoAccess, WrongArgument}

-- 16, 14, 15
unfoldable pub passed : Bool → Bool → Bool → Result Unit Refusal
passed own allowed fits = cond own (cond allowed (cond fits (Ok tt) (Err WrongArgument)) (Err NoAccess)) (Err ByAddressZero)

-- 11, 12, 13, and then those: whether the parameter is known and open to the function, the length right, and the rest
unfoldable pub checked : Bool → Bool → Bool → Bool → Bool → Bool → Result Unit Refusal
unfolding passed
checked knows opens length_fits own allowed fits =
    cond knows (cond opens (cond length_fits (passed own allowed fits) (Err WrongLength)) (Err NotOpen)) (Err UnknownParameter)

-- "Read: function 3, .. 8 bytes in all. Unused fields are 0, else 15." Function 4 likewise, with 12 for what it does not open. Document 02, CR 6:
-- "Reads by 0 go on"
unfoldable pub read_verdict : Record → Command → Result Unit Refusal
unfolding checked
read_verdict r c =
    let w = c.row in
    checked (known w) (opens_to c.request.reading w) (eqb c.length read_size) true true (fields_fit w.fields c.request (slots_of r.minutes))

-- by the parameter's row, the detail, the stored telemetry and the data
unfoldable pub argument_fits : Row → ℕ → Telemetry → List ℕ → Bool
argument_fits w detail stored bs = detail_fits w.detail_from w.detail_to detail && data_fits w.code stored bs

-- "Change: function 16, parameter, data"
unfoldable pub change_verdict : Met → Record → Command → List ℕ → Result Unit Refusal
unfolding checked argument_fits
change_verdict met r c f =
    let w = c.row in
    checked (known w) w.changeable (eqb c.length (bare_size + w.change_bytes)) (by_own met) (allows w.access r.protection.level)
    (argument_fits w c.detail r.telemetry (data_in f))

-- "Zeroing: function 30, parameter, 0 (else 15). Figure 19 gives 6 bytes for it."
unfoldable pub zero_verdict : Met → Record → Command → Result Unit Refusal
unfolding checked
zero_verdict met r c =
    let w = c.row in
    checked (known w) w.zeroable (eqb c.length bare_size) (by_own met) (is_main r.protection.level) (eqb c.detail 0)

-- document 02, CR 6: "the protection commands are still accepted", by 0 too
unfoldable pub verdict_by : Function → Met → Record → Command → List ℕ → Result Unit Refusal
unfolding read_verdict change_verdict zero_verdict
verdict_by (function.Read reading) met r c f = read_verdict r c
verdict_by function.Change met r c f = change_verdict met r c f
verdict_by function.Zero met r c f = zero_verdict met r c
verdict_by function.Unlock met r c f = unlock_verdict r.passwords c f
verdict_by function.Lock met r c f = lock_verdict c
verdict_by function.Unknown met r c f = Err UnknownFunction

-- the verdict on a command that the meter heard, by the address met; the frame has its data
unfoldable pub verdict_of : Met → Record → Command → List ℕ → Result Unit Refusal
unfolding verdict_by
verdict_of met r c f = verdict_by c.function met r c f
