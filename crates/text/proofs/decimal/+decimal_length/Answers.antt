-- `decimal_length` meets its contract: a number from ten on has one digit more than its tenth, to which the measure, the number, falls.
use mathlib.Core.Path.{sym}
use Prim.Native.Nat.{◌/◌}
use native.Mathlib.Omega.{arith}
use Rattle.text.proofs.DecimalLaws.{length-decimal-one, length-decimal-more, decimal-most-u64}
use Rattle.text.proofs.decimal.+decimal_length.Goals as goal

pub overflow_add-result : goal.overflow_add-result
overflow_add-result t c = omega (arith, c.decimal_length.ensures, decimal-most-u64 (c.args.n / 10) (omega (arith, c.ranges.n)))

pub returns-then-n-ge-TEN : goal.returns-then-n-ge-TEN
returns-then-n-ge-TEN t c = omega (arith, c.decimal_length.ensures, length-decimal-more c.args.n c.if-n-ge-TEN.true)

pub returns : goal.returns
returns t c = sym (length-decimal-one _ c.if-n-ge-TEN.false)
