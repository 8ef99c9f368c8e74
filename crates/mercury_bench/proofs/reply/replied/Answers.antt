-- `replied` meets its contract: head, data and CRC are the reply (`sealed-reply`); at most 16 data bytes, so the sums fit.
use Rattle.mercury_bench.proofs.ReplyLaws.{length-reply, sealed-reply}
use Rattle.mercury.proofs.CommandLaws.{data-small}
use native.Mathlib.Omega.{arith}
use Rattle.mercury_bench.proofs.reply.replied.Goals as goal

pub overflow_add-size : goal.overflow_add-size
overflow_add-size c = grind (arith, data-small)

pub overflow_add-result : goal.overflow_add-result
overflow_add-result c = grind (arith, data-small)

pub returns : goal.returns
returns c = grind (arith, length-reply, sealed-reply)
