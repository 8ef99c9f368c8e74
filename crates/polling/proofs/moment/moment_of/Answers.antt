-- `moment_of` meets its contract: a date's days are below a century's, so that their minutes fit 32 bits.
use Rattle.polling.proofs.MomentLaws.{days-most}
use native.Mathlib.Omega.{arith}
use Rattle.polling.proofs.moment.moment_of.Goals as goal

pub overflow_mul-result : goal.overflow_mul-result
overflow_mul-result c = omega (arith, days-most _ _ c.days_to.ensures)

pub overflow_add-result : goal.overflow_add-result
overflow_add-result c = omega (arith, days-most _ _ c.days_to.ensures)
