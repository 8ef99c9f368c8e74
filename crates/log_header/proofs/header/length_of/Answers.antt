-- `length_of` meets its contract: the sum is `length_of`'s own, and there are so few cells that it fits (`cells-at-most`).
use Rattle.log_header.proofs.HeaderLaws.{cells-at-most}
use Prim.Native.Nat.{◌<◌}
use native.Mathlib.Omega.{arith}
use Rattle.log_header.specs.Header.{length_of}
use borrow.Author.Rules.{rules}
use Rattle.log_header.proofs.header.length_of.Goals as goal

pub overflow_mul-result : goal.overflow_mul-result
overflow_mul-result c = let d : c.args.h.days < 256 = search rules in omega (arith, c.cells_of-n.ensures, cells-at-most c.args.h d)

pub overflow_add-result-2 : goal.overflow_add-result-2
overflow_add-result-2 c = let d : c.args.h.days < 256 = search rules in omega (arith, c.cells_of-n.ensures, cells-at-most c.args.h d)

pub overflow_add-result-3 : goal.overflow_add-result-3
overflow_add-result-3 c = let d : c.args.h.days < 256 = search rules in omega (arith, c.cells_of-n.ensures, cells-at-most c.args.h d)

pub returns : goal.returns
unfolding length_of
returns c = simp c.cells_of-n.ensures
