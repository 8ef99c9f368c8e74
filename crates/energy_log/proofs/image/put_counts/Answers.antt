-- `put_counts` meets its contract: four stores, one after the other.
use Rattle.energy_log.specs.Image.{put_count, put_counts}
use Prim.Native.Nat.{ℕ, ◌+◌, ◌*◌}
use mathlib.Core.List.{List}
use mathlib.Core.Path.{ap, ◌∙◌}
use Rattle.energy_log.proofs.image.put_counts.Goals as goal

pub returns : goal.returns
unfolding put_counts
returns c =
    let args = c.args in
    let n = args.n in
    let i = args.i in
    c.put_count-4.ensures
    ∙ ap (λ (x : List ℕ). put_count n x (3 * n + i) args.rm) (c.put_count-3.ensures
    ∙ ap (λ (x : List ℕ). put_count n x (2 * n + i) args.rp) (c.put_count-2.ensures
    ∙ ap (λ (x : List ℕ). put_count n x (n + i) args.em) c.put_count.ensures))
