-- `number_of` meets its contract: the loop keeps that the number so far, with the bytes left, is the bytes', and below 100 ^ i after i bytes.
use mathlib.Core.Path.{◌≡◌}
use Prim.Native.Nat.{◌^◌, ◌<◌}
use lib.ListN.{drop}
use Rattle.packed_decimal.specs.Packed.{is_packed, value_from, value_of}
use Rattle.packed_decimal.proofs.number_of.Given as goal

abbrev pub invariant-loop-byte : goal.invariant-loop-byte
invariant-loop-byte l =
    (l.number < 100 ^ l.byte-index) × (is_packed (drop l.byte-index l.bytes) ≡ is_packed l.bytes) × (value_from l.number (drop l.byte-index l.bytes) ≡ value_of l.bytes)
