-- `word_more` meets its contract: 64 shifts more are `more-word`'s fold of the word, xored with the next; those shifts are the CRC of its eight bytes.
use mathlib.Core.Path.{sym, ◌∙◌}
use borrow.Author.Rules.{rules}
use Rattle.crc16.specs.Word.{register}
use Rattle.crc16.proofs.WordLaws.{crc_from-bytes_of}
use Rattle.crc16.proofs.Word.{more-word}
use Rattle.crc16.proofs.word_more.Goals as goal

pub returns : goal.returns
returns c = rw c.by_x64.ensures
    (more-word c.args.a c.args.word (search rules) (search rules)
    ∙ sym (crc_from-bytes_of 8 (register c.args.a) c.args.word (search rules)))
