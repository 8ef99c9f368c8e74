-- `fill` meets its contract: what is written to the front of the part from the fifth byte on is written at 4 in the whole (`part_filled`).
use Rattle.meter.proofs.ReplyLaws.{part_filled}
use Rattle.meter.proofs.reply.fill.Goals as goal

pub returns : goal.returns
returns c =
    let args = c.args in
    part_filled args.out.now _ _ c.put_data.ensures
