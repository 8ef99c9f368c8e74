-- `float_from` meets its contract: bits below the infinity's, without their sign, are a finite float, else the infinity is made; so neither is a NaN.
use borrow.Author.Tests.{lt-ltb, le-ltb}
use lib.Ieee.{binary32, of_bits}
use lib.Ieee.Bits.{nan_bits_above}
use lib.Arith.{le→nltb}
use native.Mathlib.Nat.{le_of_lt}
use Rattle.wire_values.proofs.PowerLaws.{finite-bits}
use Rattle.metlazuel.specs.Bits.{float_from}
use Rattle.metlazuel.proofs.bench_meter.float_from.Goals as goal

pub float_from_bits-result : goal.float_from_bits-result
float_from_bits-result c = rw (nan_bits_above binary32 c.args.bits) (le→nltb _ _ (le_of_lt c.if-bits-lt-INFINITY.true))

pub float_from_bits-result-else-bits-lt-INFINITY : goal.float_from_bits-result-else-bits-lt-INFINITY
float_from_bits-result-else-bits-lt-INFINITY c = rw (nan_bits_above binary32 0x7F800000) tt

pub returns-then-bits-lt-INFINITY : goal.returns-then-bits-lt-INFINITY
unfolding float_from
returns-then-bits-lt-INFINITY c = simp (finite-bits, lt-ltb _ _ c.if-bits-lt-INFINITY.true)

pub returns-else-bits-lt-INFINITY : goal.returns-else-bits-lt-INFINITY
unfolding float_from of_bits
returns-else-bits-lt-INFINITY c = simp (finite-bits c.args.bits, le-ltb _ _ c.if-bits-lt-INFINITY.false)
