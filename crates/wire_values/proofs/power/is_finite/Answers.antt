-- `is_finite` meets its contract: a float is finite exactly where its bits without the sign are below the infinity's (`finite-bits`).
use mathlib.Core.Path.{sym}
use Rattle.wire_values.proofs.PowerLaws.{finite-bits}
use Rattle.wire_values.proofs.power.is_finite.Goals as goal

pub returns : goal.returns
returns c = sym (finite-bits c.args.bits)
