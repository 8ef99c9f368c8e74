-- `last_in` meets its contract: in the loop, the last that is asked for before `i` is the one before `end`; one at `i` is it, and at the front there is none.
use mathlib.Core.Path.{sym, ◌∙◌}
use native.Mathlib.Omega.{arith}
use Rattle.polling.proofs.OrderLaws.{down-stops, down-on, down_ends}
use Rattle.polling.proofs.order.last_in.Goals as goal

pub returns-then-asks_for : goal.returns-then-asks_for
returns-then-asks_for c =
    let at-loop = c.loop-i in
    sym (down-stops _ _ _ _ at-loop.i c.loop-i-test.true (sym c.asks_for.ensures ∙ c.if-asks_for.true)) ∙ at-loop.invariant

pub loop-i-preserved : goal.loop-i-preserved
loop-i-preserved c =
    let at-loop = c.loop-i in
    down-on _ _ _ _ at-loop.i c.loop-i-test.true (sym c.asks_for.ensures ∙ c.if-asks_for.false) ∙ at-loop.invariant

pub returns : goal.returns
returns c = sym (down_ends _ _ _ _ c.loop-i.i (omega arith)) ∙ c.loop-i.invariant
