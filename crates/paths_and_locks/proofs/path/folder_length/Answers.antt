-- `folder_length` meets its contract: no slash stands from `i` on, so the last one before `i` is the last of all.
use Rattle.std.proofs.Common.{ℕ, ◌≡◌, sym, ap, ◌∙◌, arith}
use Rattle.paths_and_locks.specs.Path.{folder_length}
use Rattle.paths_and_locks.proofs.PathLaws.{slash-at, no_slash}
use Rattle.paths_and_locks.proofs.path.folder_length.Goals as goal

pub returns-then-path-i-eq-SLASH : goal.returns-then-path-i-eq-SLASH
returns-then-path-i-eq-SLASH c =
    let found = slash-at _ _ c.loop-i-test.true c.if-path-i-eq-SLASH.true ∙ omega arith in
    sym found ∙ c.loop-i.invariant

pub loop-i-preserved : goal.loop-i-preserved
loop-i-preserved c = sym (no_slash _ _ c.loop-i-test.true c.if-path-i-eq-SLASH.false) ∙ c.loop-i.invariant

pub returns : goal.returns
unfolding folder_length
returns c =
    let e : c.loop-i.i ≡ 0 = omega arith in
    sym (ap (λ (j : ℕ). folder_length j c.args.path.now) e) ∙ c.loop-i.invariant
