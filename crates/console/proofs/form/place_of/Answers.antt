-- `place_of` meets its contract: in the loop, the place among the names from `k` on is the place among all.
use Rattle.std.proofs.Common.{◌≡◌, ◌+◌, ◌-◌, suc, sym, arith, ◌∙◌}
use Rattle.console.proofs.FormLaws.{place_start, place_step, place_none}
use Rattle.console.proofs.form.place_of.Goals as goal

pub loop-k-init : goal.loop-k-init
loop-k-init c = place_start _ _ _ c.spaces-k-end.ensures

pub returns-then-eq : goal.returns-then-eq
returns-then-eq c =
    let step = rw c.if-eq.true at (place_step _ _ _ (c.spaces-k-end.result - c.loop-k.k) c.word.ensures c.eq.ensures) in
    cc

pub loop-k-preserved : goal.loop-k-preserved
loop-k-preserved c =
    let step = rw c.if-eq.false at (place_step _ _ _ (c.spaces-k-end.result - c.loop-k.k) c.word.ensures c.eq.ensures) in
    let e : c.spaces-k-end.result - c.loop-k.k ≡ suc (c.spaces-k-end.result - (c.loop-k.k + 1)) = omega arith in
    rw (sym e) (cc)

pub returns-else-eq : goal.returns-else-eq
returns-else-eq c =
    let step = rw c.if-eq.false at (place_step _ _ c.loop-k.k 0 c.word.ensures c.eq.ensures) in
    let e : c.spaces-k-end.result - c.loop-k.k ≡ 0 = omega arith in
    sym (step ∙ place_none _ _ _) ∙ (rw e at c.loop-k.invariant)
