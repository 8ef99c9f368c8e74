-- `full_bytes` meets its contract: at most 48 data bytes, so that the sum fits.
use Rattle.request.proofs.RequestLaws.{data_bytes-small}
use native.Mathlib.Omega.{arith}
use Rattle.polling.proofs.question.full_bytes.Goals as goal

pub overflow_add-result : goal.overflow_add-result
overflow_add-result c = omega (arith, data_bytes-small c.subject_of.result, c.data_bytes.ensures)
