-- `one_by_one` meets its contract: the loop keeps that a walk over the places left finds what a walk over all finds.
use Rattle.meter_store.specs.Store.{key_of, first_from}
use Prim.Native.Nat.{◌-◌}
use mathlib.Core.Path.{◌≡◌}
use Rattle.meter_store.proofs.find.one_by_one.Given as goal

abbrev pub invariant-loop-i : goal.invariant-loop-i
invariant-loop-i l =
    first_from l.store (key_of l.month l.day l.number) l.i (l.to - l.i) ≡ first_from l.store (key_of l.month l.day l.number) l.from (l.to - l.from)
