-- `serve` meets its contract: before each turn the meter is one that its answers and seconds made of the first, and the turn goes on from there; the store's
-- length stays as it was.
use mathlib.Core.Path.{◌≡◌}
use lib.ListN.{length}
use Rattle.serve.specs.Served.{GoesOn}
use Rattle.serve.proofs.line.serve.Given as goal

abbrev pub invariant-loop : goal.invariant-loop
invariant-loop l =
    (length l.store ≡ length l.initial.store) × GoesOn l.initial.served.bench l.initial.store l.served.bench l.store
