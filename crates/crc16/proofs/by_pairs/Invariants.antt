-- `by_pairs` meets its contract: the loop keeps that the CRC from the two words over the bytes not yet passed is the CRC of all.
use Rattle.crc16.specs.Word.{pair_register}
use Rattle.crc16.specs.Crc.{crc_of, crc_from}
use lib.ListN.{drop}
use Prim.Native.Nat.{◌+◌, ◌*◌, ◌^◌, ◌<◌}
use mathlib.Core.Path.{◌≡◌}
use Rattle.crc16.proofs.by_pairs.Given as goal

abbrev pub invariant-loop-pair : goal.invariant-loop-pair
invariant-loop-pair l =
    (l.p.second < 2 ^ 64) × (crc_from (pair_register l.p.first l.p.second) (drop (8 + l.pair-index * 16) l.bytes) ≡ crc_of l.bytes)
