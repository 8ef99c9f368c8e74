-- `write_gaps` meets its contract: `fill` writes zeros everywhere in the part, which are written where it lies (`zeros-fit`).
use Prim.Native.Nat.{◌-◌}
use native.Mathlib.Omega.{arith}
use Rattle.energy_log.proofs.FreshLaws.{zeros-fit}
use Rattle.energy_log.proofs.fresh.write_gaps.Goals as goal

pub returns : goal.returns
returns c = zeros-fit c.args.out.now _ 14 (c.args.end - 14) (omega arith) (c.fill.ensures.after (λ y e. e))
