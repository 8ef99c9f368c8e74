-- `put_request` meets its contract: a head in front, then sealed, is a request (`sealed-head`).
use native.Mathlib.Omega.{arith}
use Rattle.std.proofs.lemmas.Grind.{common_steps}
use Rattle.mercury.proofs.LayoutLaws.{sealed-head}
use Rattle.mercury.specs.Request.{requested, request_frame}
use Rattle.mercury.proofs.request.put_request.Goals as goal

pub returns : goal.returns
unfolding requested request_frame
returns c = grind (arith, common_steps, sealed-head)
