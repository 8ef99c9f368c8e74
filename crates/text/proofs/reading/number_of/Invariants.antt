-- `number_of` meets its contract: the loop keeps that the value so far, with the bytes left, is the text's; one past 64 bits only grows.
use mathlib.Core.Path.{◌≡◌}
use Prim.Native.Nat.{◌^◌, ◌<◌}
use lib.ListN.{drop}
use Rattle.text.specs.Decimal.{value_from, value_of, are_digits}
use Rattle.text.proofs.reading.number_of.Given as goal

abbrev pub invariant-loop-byte : goal.invariant-loop-byte
invariant-loop-byte l =
    (l.value < 2 ^ 64) × (are_digits (drop l.byte-index l.text) ≡ are_digits l.text) × (value_from l.value (drop l.byte-index l.text) ≡ value_of l.text)
