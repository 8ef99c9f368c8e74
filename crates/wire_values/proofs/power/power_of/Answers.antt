-- `power_of` meets its contract: a float is finite exactly where its bits without the sign are below the infinity's (`finite-bits`).
use Rattle.wire_values.proofs.PowerLaws.{finite-bits}
use Prim.Native.Nat.{◌%◌}
use native.Mathlib.Nat.{le_of_lt}
use lib.Arith.{le→nltb}
use lib.Ieee.Bits.{nan_bits_above}
use lib.Ieee.{binary32}
use borrow.Author.Tests.{ltb-true}
use mathlib.Core.Path.{sym, ◌∙◌}
use Rattle.wire_values.proofs.power.power_of.Goals as goal

pub float_from_bits-result : goal.float_from_bits-result
float_from_bits-result c =
    let bits = c.u32_at-bits.result in
    let below = ltb-true (bits % 0x80000000) 0x7F800000 (sym (finite-bits bits) ∙ sym c.is_finite.ensures ∙ c.if-is_finite.true) in
    rw (nan_bits_above binary32 bits) (le→nltb _ _ (le_of_lt below))
