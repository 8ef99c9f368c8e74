-- `cell_by` meets its contract: each arm's kind is a number for which `kind_names` computes, and any other is at least three.
use Rattle.log_cell.specs.Cell.{cell_by, kind_names}
use borrow.Author.Tests.{le-ltb}
use native.Mathlib.Omega.{arith}
use Rattle.log_cell.proofs.cell.cell_by.Goals as goal

pub returns-in-0 : goal.returns-in-0
unfolding kind_names cell_by
returns-in-0 c = rw c.in-0.is

pub returns-in-1 : goal.returns-in-1
unfolding kind_names cell_by
returns-in-1 c = rw c.in-1.is

pub returns-in-2 : goal.returns-in-2
unfolding kind_names cell_by
returns-in-2 c = rw c.in-2.is

pub returns-in_default : goal.returns-in_default
unfolding kind_names
returns-in_default c = simp (le-ltb c.args.kind 3 (omega arith))
