-- Protection. Source: document 01, "Protection"; 002, sections 5.1 and 5.2, figures 21 and 22 (page 20); document 02, CR 6.
use Rattle.meter_command.specs.declared.verdict.Refusal.{Refusal}
use Rattle.std.specs.Prelude.{Bool, true, false, cond, List, ℕ, eqb, leb, Err, Ok, Result}
use Rattle.byte_numbers.specs.Place.{number_at}
use Rattle.parameters.specs.declared.code.Parameter.{Parameter}
use Rattle.frame.specs.Layout.{data_place, bare_size, unlock_size}
use Rattle.parameters.specs.Table.{parameter_row}
use Rattle.parameters.specs.declared.table.Access.{Access}
use Rattle.parameters.specs.declared.table.Access.TheVariants as access
use Rattle.meter_clock.specs.declared.protection.Level.{Level}
use Rattle.meter_clock.specs.declared.protection.Level.TheVariants.{Shut, Auxiliary, Main}
use Rattle.meter_record.specs.declared.record.Passwords.{Passwords}
use Rattle.meter_command.specs.declared.command.Command.{Command}
use Rattle.meter_command.specs.declared.access.Met.{Met}
use Rattle.meter_command.specs.declared.access.Met.TheVariants.{Own, Zero, Neither}
use Rattle.meter_command.specs.declared.verdict.Refusal.TheVariants.{WrongLength, NoAccess, WrongArgument}

-- document 02, CR 6: "Changes, a new password too, and zeroing by 0 are refused": the access that they need includes the meter's own address
abbrev pub by_own : Met → Bool
by_own Own = true
by_own Zero = false
by_own Neither = false

abbrev pub is_main : Level → Bool
is_main Shut = false
is_main Auxiliary = false
is_main Main = true

abbrev pub is_open : Level → Bool
is_open Shut = false
is_open Auxiliary = true
is_open Main = true

-- "Main opens all changes; auxiliary opens only network address, port settings and display mask": which of them a change needs is the table's
abbrev pub allows : Access → Level → Bool
allows access.Auxiliary l = is_open l
allows access.Main l = is_main l

abbrev pub change_allowed : Parameter → Level → Bool
change_allowed p l = allows (parameter_row p).access l

-- figure 21: level 0 is main, 1 auxiliary
unfoldable pub password_for : Passwords → ℕ → ℕ
password_for p named = cond (eqb named 1) p.auxiliary.0 p.main.0

unfoldable pub level_for : ℕ → Level
level_for named = cond (eqb named 1) Auxiliary Main

-- function 31: 0, level, eight bytes of password (figure 21): 13, then 15 for a level that there is not, 14 and 15
unfoldable pub unlock_verdict : Passwords → Command → List ℕ → Result Unit Refusal
unfolding password_for
unlock_verdict p c f =
    cond (eqb c.length unlock_size)
    (cond (leb c.detail 1)
    (cond (eqb (number_at f data_place 8) (password_for p c.detail))
    (cond (eqb c.request.parameter 0)
    (Ok tt)
    (Err WrongArgument))
    (Err NoAccess))
    (Err WrongArgument))
    (Err WrongLength)

-- function 32: 0, 0 (figure 22)
unfoldable pub lock_verdict : Command → Result Unit Refusal
lock_verdict c =
    cond (eqb c.length bare_size)
    (cond (eqb c.request.parameter 0) (cond (eqb c.detail 0) (Ok tt) (Err WrongArgument)) (Err WrongArgument)) (Err WrongLength)
