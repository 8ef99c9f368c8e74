-- `count_in` meets its contract: both bytes are there, and joined they are the number at their place.
use mathlib.Core.Path.{sym}
use Rattle.byte_numbers.proofs.ByteLaws.{two}
use Rattle.energy_log.proofs.image.count_in.Goals as goal

pub returns : goal.returns
returns c =
    let at-args = c.args in
    sym (two at-args.log.now at-args.at)
