-- `place_of` meets its contract: in the loop, the place among the names from `k` on is the place among all.
use Rattle.std.proofs.Common.{◌≡◌, suc, ◌-◌}
use Rattle.console.specs.Form.{place_from, place_of}
use Rattle.console.proofs.form.place_of.Given as goal

abbrev pub invariant-loop-k : goal.invariant-loop-k
invariant-loop-k l = place_from l.w l.names l.k (suc (l.k-end - l.k)) ≡ place_of l.w l.names
