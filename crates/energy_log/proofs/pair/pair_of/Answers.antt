-- `pair_of` meets its contract: a shift by two bits for each pair below is a division by four for each (`pair-shift`).
use Rattle.energy_log.proofs.PairLaws.{pair-shift}
use Rattle.energy_log.proofs.pair.pair_of.Goals as goal

pub returns : goal.returns
returns c = pair-shift c.args.b c.args.j c.requires
