-- `crc16` meets its contract: 64 shifts of START leave FFFF hex (computed), and each length goes its own way; few bytes come back from their number.
use Rattle.crc16.specs.Word.{register}
use Rattle.crc16.specs.Crc.{crc_of, times, bit_step}
use Rattle.byte_numbers.proofs.NumberLaws.{bytes_of-number}
use mathlib.Core.Path.{◌∙◌, ap}
use Rattle.crc16.proofs.crc16.Goals as goal

pub returns-then-n-lt4 : goal.returns-then-n-lt4
unfolding crc_of register times bit_step
returns-then-n-lt4 c = c.by_bytes.ensures

pub returns-then-n-le8 : goal.returns-then-n-le8
returns-then-n-le8 c = let s = c.args.bytes.now in
    c.register_of.ensures ∙ c.raised.ensures ∙ (rw c.few.ensures (ap crc_of (bytes_of-number s (λ i. (c.type_inv.bytes i).fits))))

pub returns-then-n-lt16 : goal.returns-then-n-lt16
returns-then-n-lt16 c = c.register_of-then-n-lt16.ensures ∙ c.two_words.ensures
