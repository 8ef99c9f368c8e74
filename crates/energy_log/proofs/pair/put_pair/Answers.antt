-- `put_pair` meets its contract: the old pair taken away and the new one added leave the three others (`put-shift`), and nothing wraps.
use Rattle.energy_log.proofs.PairLaws.{pair-byte, shift-below, put-shift}
use native.Mathlib.Omega.{arith}
use Rattle.energy_log.proofs.pair.put_pair.Goals as goal

pub overflow_sub-result : goal.overflow_sub-result
overflow_sub-result c = rw c.pair_of-old.ensures (shift-below c.args.b (omega arith) c.args.j c.requires.0)

pub overflow_add-result : goal.overflow_add-result
overflow_add-result c =
    let args = c.args in
    let pre = c.requires in
    rw c.pair_of-old.ensures (omega (arith, put-shift args.b (omega arith) args.k pre.1 args.j pre.0, pair-byte args.b args.j args.k pre.1))

pub returns : goal.returns
returns c = rw c.pair_of-old.ensures (put-shift c.args.b (omega arith) c.args.k c.requires.1 c.args.j c.requires.0)
