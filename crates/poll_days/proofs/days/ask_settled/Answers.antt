-- `settle` promises the equation, which is a list of the logger's calls, with the ask that they leave.
use native.Mathlib.Omega.{arith}
use Rattle.polling.proofs.ReachedLaws.{settles}
use Rattle.poll_days.proofs.days.ask_settled.Goals as goal

pub returns-clause-reached : goal.returns-clause-reached
returns-clause-reached c =
    settles _ _ c.args.reply.now _ c.settle.result (λ i. omega (arith, c.type_inv.reply i)) c.settle.ensures
