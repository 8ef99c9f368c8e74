-- `pair_more` meets its contract: 128 shifts more are `more-pair`'s fold of the two words.
use Rattle.crc16.proofs.Word.{more-pair}
use Rattle.crc16.specs.Word.{register, pair_register}
use Rattle.crc16.proofs.WordLaws.{crc_from-bytes_of}
use Rattle.crc16.specs.Crc.{crc_from}
use Rattle.byte_numbers.specs.Number.{bytes_of}
use lib.Bits.{bit_xor}
use Prim.Native.Nat.{ℕ}
use mathlib.Core.Path.{sym, ap, ◌∙◌}
use borrow.Author.Rules.{rules}
use Rattle.crc16.proofs.pair_more.Goals as goal

pub returns : goal.returns
unfolding register
returns c =
    let start = c.args in
    let at-by-x128 = c.by_x128 in
    let at_out = c.out_of_x128 in
    let f = start.p.first in
    let s = start.p.second in
    let held = pair_register f s in
    rw (at-by-x128.ensures, at_out.ensures, c.by_x128-2.ensures, c.out_of_x128-2.ensures)
    (more-pair f s start.first start.second (search rules) (search rules)
    ∙ sym (crc_from-bytes_of 8 (register (bit_xor held start.first)) start.second (search rules))
    ∙ ap (λ (r : ℕ). crc_from r (bytes_of 8 start.second)) (sym (crc_from-bytes_of 8 held start.first (search rules))))
