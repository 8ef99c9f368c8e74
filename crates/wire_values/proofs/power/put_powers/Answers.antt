-- `put_powers` meets its contract: the phases are written behind the four bytes of the total.
use mathlib.Core.Path.{ap, ◌∙◌}
use Rattle.byte_numbers.specs.Place.{written}
use Rattle.byte_numbers.proofs.PlaceLaws.{onward}
use Rattle.wire_values.specs.Power.{power_bytes, powers_bytes}
use Rattle.wire_values.proofs.PowerLaws.{length-power_bytes}
use lib.Ieee.{Float}
use Rattle.wire_values.proofs.power.put_powers.Goals as goal

pub returns : goal.returns
unfolding powers_bytes
returns c =
    onward c.args.out.now _ _ 0 4 _ _
    (c.put_power.ensures ∙ ap (λ (x : Float). written c.args.out.now 0 (power_bytes x)) c.total.ensures)
    c.put_phases.ensures
    (simp length-power_bytes)
