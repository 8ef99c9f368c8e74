-- `serve` meets its contract: before each turn the meter is one that its answers and seconds made of the first, and the turn goes on from there; the store's
-- length stays as it was.
use mathlib.Core.Path.{refl}
use native.Mathlib.Omega.{arith}
use Rattle.serve.proofs.BenchLaws.{same, then}
use Rattle.serve.proofs.line.serve.Goals as goal
use Rattle.serve.proofs.line.serve.Goals.{else-loop-test, then-loop-test+then-not-served}

pub loop-init : goal.loop-init
loop-init c = (refl, same _ _)

pub loop-preserved : goal.loop-preserved
loop-preserved c =
    let at-loop = c.loop in
    let turned = c.turn-served.ensures in
    (omega arith, then _ _ _ _ _ _ at-loop.invariant.1 turned)

pub returns : goal.returns
returns c =
    elim c.loop-test.branch [
      | else-loop-test w ↦ rw (w.served-is, w.store-is) c.loop.invariant.1
      | then-loop-test+then-not-served w ↦ rw (w.served-is, w.store-is) (then _ _ _ _ _ _ c.loop.invariant.1 w.turn-served.ensures)
    ]
