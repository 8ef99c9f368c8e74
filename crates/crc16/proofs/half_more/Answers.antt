-- `half_more` meets its contract: 32 shifts more are `more-half`'s fold of the word and the half, and those shifts are the CRC of the four bytes.
use mathlib.Core.Path.{sym, ◌∙◌}
use borrow.Author.Rules.{rules}
use Rattle.crc16.specs.Word.{register}
use Rattle.crc16.proofs.WordLaws.{crc_from-bytes_of}
use Rattle.crc16.proofs.Word.{more-half}
use Rattle.crc16.proofs.half_more.Goals as goal

pub returns : goal.returns
returns c = rw c.by_x64.ensures
    (more-half c.args.a c.args.half (search rules) (search rules)
    ∙ sym (crc_from-bytes_of 4 (register c.args.a) c.args.half (search rules)))
