-- `byte_more` meets its contract: shifts are linear over xor, so `more_byte`, tested at each power of two, holds for every word and byte.
use borrow.Author.Rules.{rules}
use Rattle.crc16.specs.Crc.{byte_step, eight_bits}
use Rattle.crc16.proofs.Word.{more_byte}
use Rattle.crc16.proofs.byte_more.Goals as goal

pub returns : goal.returns
unfolding byte_step eight_bits
returns c = rw c.by_x64.ensures (more_byte c.args.a c.args.byte (search rules) (search rules))
