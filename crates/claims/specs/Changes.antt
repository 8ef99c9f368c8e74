-- What a command may do to record and store.
use Rattle.std.specs.Prelude.{◌≡◌, Bool, true, cond, List, ℕ, eqb}
use Rattle.parameters.specs.declared.code.Parameter.{Parameter}
use Rattle.parameters.specs.declared.code.Parameter.TheVariants as parameter
use Rattle.meter_clock.specs.Protection.{opened}
use Rattle.meter_record.specs.With.{with_address, with_protection, with_passwords, with_telemetry, with_mask, with_next, with_clock, with_summer, with_winter}
use Rattle.meter_record.specs.declared.record.Passwords.{Passwords}
use Rattle.meter_record.specs.declared.record.Record.{Record}
use Rattle.meter_command.specs.Command.{command_of}
use Rattle.meter_command.specs.declared.access.Met.TheVariants.{Own}
use Rattle.meter.specs.Reply.{Outcome, met}

-- passwords of which the one that the detail names may be another: 0 main, 1 auxiliary (002, section 4.14)
abbrev pub other_named : ℕ → Passwords → Passwords → Passwords
other_named detail before x =
    cond (eqb detail 1) (record { main = before.main; auxiliary = x.auxiliary }) (record { main = x.main; auxiliary = before.auxiliary })

-- the record x differs from r in the named parameter alone; of the slices the next place is in the record
abbrev pub Alone : Parameter → ℕ → Record → Record → Type 0
Alone parameter.Address detail r x = x ≡ with_address r x.address
Alone parameter.Telemetry detail r x = x ≡ with_telemetry r x.telemetry
Alone parameter.SummerDate detail r x = x ≡ with_summer r x.time.summer
Alone parameter.WinterDate detail r x = x ≡ with_winter r x.time.winter
Alone parameter.Clock detail r x = x ≡ with_clock r x.time.clock
Alone parameter.DisplayMask detail r x = x ≡ with_mask r x.mask
Alone parameter.Password detail r x = x ≡ with_passwords r (other_named detail r.passwords x.passwords)
Alone parameter.Slice detail r x = x ≡ with_next r x.next
Alone parameter.ActivePower detail r x = x ≡ r
Alone parameter.ReactivePower detail r x = x ≡ r
Alone parameter.SixSlices detail r x = x ≡ r
Alone parameter.Unknown detail r x = x ≡ r

-- a change or zeroing that is done: it had its access and came by the meter's own address (document 02, CR 6), changed the named parameter
-- alone, the 240 seconds of the level that was open start again, and the store is as given
pub record Permitted (access : Bool) (f : List ℕ) (r : Record) (store : List ℕ) (o : Outcome) : Type 0 where
  pub had : access ≡ true
  pub by-own : met r f ≡ Own
  pub before_renewal : Record
  pub alone : Alone (command_of f).parameter (command_of f).detail r before_renewal
  pub renewal : o.answer.after ≡ with_protection before_renewal (opened r.protection.level)
  pub slices : o.store ≡ store

-- record and store after an answer are these
pub record Leaves (r : Record) (s : List ℕ) (o : Outcome) : Type 0 where
  pub after : o.answer.after ≡ r
  pub slices : o.store ≡ s
