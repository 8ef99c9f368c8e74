-- `by_fours` meets its contract: the loop keeps that a walk over the places left finds what one over all does.
use Rattle.meter_store.specs.Store.{places, key_of, first_from, place_of}
use Prim.Native.Nat.{◌*◌, ◌-◌}
use mathlib.Core.Path.{◌≡◌}
use Rattle.meter_store.proofs.find.by_fours.Given as goal

abbrev pub invariant-loop-turn : goal.invariant-loop-turn
invariant-loop-turn l =
    first_from l.store (key_of l.month l.day l.number) (4 * l.turn) (places - 4 * l.turn) ≡ place_of l.store (key_of l.month l.day l.number)
