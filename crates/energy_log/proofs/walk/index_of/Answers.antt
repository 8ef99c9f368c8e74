-- `index_of` meets its contract by its code: a product of two bytes, and a third, stay far below what a word holds.
use borrow.Author.Rules.{rules}
use native.Mathlib.Nat.{mul-le-mul}
use native.Mathlib.Omega.{arith}
use Prim.Native.Nat.{◌≤◌}
use Rattle.energy_log.proofs.walk.index_of.Goals as goal

pub overflow_mul-result : goal.overflow_mul-result
overflow_mul-result c =
    let at = c.args.at in
    let d : at.day ≤ 255 = search rules in
    let n : at.slots ≤ 255 = search rules in
    omega (arith, mul-le-mul d n)

pub overflow_add-result : goal.overflow_add-result
overflow_add-result c =
    let at = c.args.at in
    let d : at.day ≤ 255 = search rules in
    let n : at.slots ≤ 255 = search rules in
    let s : at.slot ≤ 255 = search rules in
    omega (arith, mul-le-mul d n, s)
