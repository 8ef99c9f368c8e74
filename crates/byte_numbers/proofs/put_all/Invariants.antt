-- `put_all` meets its contract: the loop keeps that writing the items left at the next place gives the whole result.
use mathlib.Core.Path.{◌≡◌}
use Prim.Native.Nat.{◌+◌}
use lib.ListN.{drop}
use Rattle.byte_numbers.specs.Place.{written}
use Rattle.byte_numbers.proofs.put_all.Given as goal

abbrev pub invariant-loop-i : goal.invariant-loop-i
invariant-loop-i g l = written l.out (l.at + l.i) (drop l.i l.items) ≡ written l.initial.out l.at l.items
