-- `after_first` meets its contract.
use Rattle.std.proofs.Common.{arith}
use Rattle.text.proofs.SearchLaws.{index_of-most}
use Rattle.console.proofs.line.after_first.Goals as goal

pub overflow_add-index_of : goal.overflow_add-index_of
overflow_add-index_of c = omega (arith, index_of-most 32 c.args.line.now)
