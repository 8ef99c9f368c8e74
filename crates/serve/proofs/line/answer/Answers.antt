-- `answer` meets its contract: a Mercury 206 and the store stay.
use Rattle.serve.specs.Served.{GoesOn}
use mathlib.Core.Path.{refl}
use Rattle.serve.proofs.line.answer.Goals as goal

pub returns-in-Mercury : goal.returns-in-Mercury
unfolding GoesOn
returns-in-Mercury c =
    rw (c.in-Mercury.is, c.by_mercury.ensures) (refl, refl)
