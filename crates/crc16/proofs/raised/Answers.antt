-- `raised` meets its contract: what stands above zeros comes down to its own place, so 64 shifts leave the CRC of the n bytes (`raised-crc`).
use Rattle.crc16.proofs.Short.{raised-crc}
use Rattle.crc16.proofs.raised.Goals as goal

pub returns : goal.returns
returns c = raised-crc c.args.n c.args.word c.requires.0 c.requires.1
