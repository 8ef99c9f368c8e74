-- `last_in` meets its contract: in the loop, the last that is asked for before `i` is the one before `end`; one at `i` is it, and at the front there is none.
use mathlib.Core.Path.{◌≡◌}
use Rattle.polling.specs.Order.{last_in}
use Rattle.energy_log.specs.Image.{cell_at}
use Rattle.polling.proofs.order.last_in.Given as goal

abbrev pub invariant-loop-i : goal.invariant-loop-i
invariant-loop-i l = last_in l.wanted l.h (cell_at l.log) l.day l.i ≡ last_in l.wanted l.h (cell_at l.log) l.day l.end
