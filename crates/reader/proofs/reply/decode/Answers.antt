-- `decode` meets its contract: a reply has at most 48 data bytes, so its length fits.
use Rattle.parameters.proofs.TableLaws.{reply-small}
use native.Mathlib.Omega.{arith}
use Rattle.reader.proofs.reply.decode.Goals as goal

pub overflow_add-full : goal.overflow_add-full
overflow_add-full c =
    let asked = c.in-Some.asked in
    omega (arith, reply-small asked.reading asked.parameter asked.detail, c.data_bytes-full.ensures)
