-- `standing_of` meets its contract: the date picks the clause of `standing_on`; days below a century's and a day's minutes fit 32 bits.
use Rattle.polling.proofs.MomentLaws.{days-most, over-most}
use Prim.Native.Nat.{◌+◌, ◌≤◌}
use native.Mathlib.Nat.{mul-le-mul}
use native.Mathlib.Omega.{arith}
use borrow.Author.Rules.{rules}
use Rattle.polling.proofs.standing.standing_of.Goals as goal

pub overflow_mul-end : goal.overflow_mul-end
overflow_mul-end c =
    let at-args = c.args in
    let m : at-args.h.minutes ≤ 255 = search rules in
    let k : at-args.slot + 1 ≤ 256 = search rules in
    omega (arith, mul-le-mul m k)

pub overflow_mul-days_to : goal.overflow_mul-days_to
overflow_mul-days_to c = omega (arith, days-most _ _ c.days_to.ensures)

pub overflow_add-days_to : goal.overflow_add-days_to
overflow_add-days_to c =
    let args = c.args in
    let m : args.h.minutes ≤ 255 = search rules in
    let k : args.slot + 1 ≤ 256 = search rules in
    omega (arith, days-most _ _ c.days_to.ensures, over-most _ _ _ c.over_at.ensures, mul-le-mul m k)
