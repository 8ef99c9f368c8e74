-- `by_bytes` meets its contract: the loop keeps that the CRC from `a` over the bytes not yet passed is the one asked for; it ends as they run out.
use mathlib.Core.Path.{◌≡◌}
use lib.ListN.{drop}
use Rattle.crc16.specs.Crc.{crc_from}
use Rattle.crc16.specs.Word.{register}
use Rattle.crc16.proofs.by_bytes.Given as goal

abbrev pub invariant-loop-byte : goal.invariant-loop-byte
invariant-loop-byte l = crc_from (register l.a) (drop l.byte-index l.bytes) ≡ crc_from (register l.start) l.bytes
