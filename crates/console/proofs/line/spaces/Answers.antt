-- `spaces` meets its contract: what the filter lets through is counted.
use Rattle.std.proofs.Common.{ℕ, cond, refl, ap, arith, rules}
use Rattle.std.proofs.lemmas.List.Recursion.{is_count_by}
use lib.Dec.{eqb}
use Rattle.console.specs.Line.{spaces_in}
use Rattle.console.proofs.line.spaces.Goals as goal

pub returns : goal.returns
unfolding spaces_in
returns c =
    let counted = is_count_by spaces_in (λ b. eqb b 32) refl (λ b s. ap (λ (k : ℕ). cond (eqb b 32) k (spaces_in s)) (omega arith)) in
    rw (counted c.args.line.now) (search rules)
