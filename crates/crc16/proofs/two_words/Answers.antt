-- `two_words` meets its contract: the bytes before the last eight pass as the front of one word, and the last eight as another (`two-words`).
use Rattle.crc16.proofs.Short.{two-words}
use native.Mathlib.Omega.{arith}
use lib.ListN.{length}
use Prim.Native.Nat.{◌-◌}
use mathlib.Core.Path.{◌∙◌}
use Rattle.crc16.proofs.two_words.Goals as goal

pub returns : goal.returns
returns c =
    let u64-at = c.u64_at in
    let s = c.args.bytes.now in
    c.word_more.ensures ∙ (rw (c.raised.ensures, c.u64_at-2.ensures, u64-at.ensures) (two-words (length s - 8) s (λ i. (c.type_inv.bytes i).fits) (omega arith) (omega arith)))
