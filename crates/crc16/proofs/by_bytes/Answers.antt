-- `by_bytes` meets its contract: the loop keeps that the CRC from `a` over the bytes not yet passed is the one asked for; it ends as they run out.
use mathlib.Core.Path.{refl, ◌∙◌}
use Prim.Native.Nat.{◌<◌}
use native.Mathlib.Numerals.{add-one}
use native.Mathlib.Omega.{arith}
use lib.ListN.{length, drop_of_length-le}
use lib.Seq.{drop-cons}
use Rattle.crc16.specs.Crc.{crc_from}
use Rattle.crc16.proofs.by_bytes.Goals as goal

pub loop-byte-init : goal.loop-byte-init
loop-byte-init c = refl

pub loop-byte-preserved : goal.loop-byte-preserved
unfolding crc_from
loop-byte-preserved c =
    let bytes = c.args.bytes.now in
    let i = c.loop-byte.byte-index in
    let more : i < length bytes = omega arith in
    rw (c.byte_more-a.ensures, add-one) (rw (drop-cons bytes i 0) at c.loop-byte.invariant)

pub returns : goal.returns
unfolding crc_from
returns c =
    let bytes = c.args.bytes.now in
    c.register_of.ensures ∙ (rw (drop_of_length-le bytes c.loop-byte-test.false) at c.loop-byte.invariant)
