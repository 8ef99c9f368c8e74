-- `put_number` meets its contract: the loop keeps that putting the digits left before what is stored gives the whole result (`written_last`).
use mathlib.Core.Path.{◌≡◌}
use Rattle.byte_numbers.specs.Place.{written}
use Rattle.packed_decimal.specs.Packed.{packed_of}
use Rattle.packed_decimal.proofs.put_number.Given as goal

abbrev pub invariant-loop-i : goal.invariant-loop-i
invariant-loop-i l = written l.out l.at (packed_of l.i l.rest) ≡ written l.initial.out l.at (packed_of l.width l.number)
