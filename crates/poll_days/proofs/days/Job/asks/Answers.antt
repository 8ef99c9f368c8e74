-- Between two turns log and figures are ones that a poll may make of the first, and each ask goes on from there; the next slot passes more of the day.
use Rattle.std.proofs.Common.{ℕ, ◌≤◌, Bool, true, false, ◌≡◌, cond, refl, sym, ◌∙◌, arith}
use borrow.Author.Tests.{leb-false}
use lib.Dec.{leb}
use Rattle.energy_log.specs.View.{view_of}
use Rattle.polling.proofs.OrderLaws.{order-bounds}
use Rattle.polling.proofs.ReachedLaws.{stays, onward}
use Rattle.polling.specs.Order.{day_slots, passed_by, passed_with}
use Rattle.polling.specs.declared.order.Order.{Order}
use Rattle.polling.specs.declared.order.Order.TheVariants.{OldestFirst, NewestFirst}
use Rattle.poll_days.proofs.days.Job.asks.Goals as goal

-- no more slots are passed than a day has
most : (order : Order) (slot : ℕ) → passed_with order slot ≤ day_slots
unfolding passed_with
most order slot = go order (leb day_slots slot) refl
  where
    go : (o : Order) (x : Bool) → leb day_slots slot ≡ x → cond x day_slots (passed_by o slot) ≤ day_slots
    go o true e = omega arith
    go OldestFirst false e = omega (arith, leb-false day_slots slot e)
    go NewestFirst false e = omega arith

pub loop-slot-init : goal.loop-slot-init
loop-slot-init c = stays _

pub returns-then-ne : goal.returns-then-ne
returns-then-ne c = rw (sym c.nothing-course.ensures) (onward c.loop-slot.invariant c.one_slot-course.ensures)

pub loop-slot-smaller : goal.loop-slot-smaller
loop-slot-smaller c =
    let found = sym c.next_in_order.ensures ∙ c.in-Some.is in
    let order = c.args.self.now.plan.order in
    omega (arith, order-bounds _ _ (view_of c.loop-slot.image) c.args.day c.loop-slot.passed _ found, most order c.in-Some.slot, c.passed_with-passed.ensures)

pub loop-slot-preserved : goal.loop-slot-preserved
loop-slot-preserved c = onward c.loop-slot.invariant c.one_slot-course.ensures

pub returns : goal.returns
returns c = rw (sym c.nothing-course.ensures) c.loop-slot.invariant
