-- `by_word` meets its contract: the CRC over eight bytes and then the rest is the CRC over all (`crc_from-number`); fewer than those are left to `by_half`.
use mathlib.Core.Path.{◌∙◌}
use native.Mathlib.Nat.{zero-add, le_refl}
use native.Mathlib.Omega.{arith}
use lib.ListN.{length}
use Rattle.std.proofs.lemmas.Slice.{between_to_end}
use Rattle.crc16.specs.Word.{register}
use Rattle.crc16.proofs.WordLaws.{crc_from-number}
use Rattle.crc16.proofs.by_word.Goals as goal

pub returns : goal.returns
returns c =
    let start = c.args in
    let passed = crc_from-number 8 0 (register start.a) start.bytes.now (λ i. (c.type_inv.bytes i).fits) (omega arith) in
    let rest = between_to_end start.bytes.now 8 (length start.bytes.now) (le_refl (length start.bytes.now)) in
    c.by_half-2.ensures ∙ (rw (c.word_more.ensures, c.u64_at.ensures, rest) (rw zero-add at passed))
