-- `put_phases` meets its contract: each power is written behind the one before it.
use mathlib.Core.Path.{refl, sym}
use native.Mathlib.Omega.{arith}
use Rattle.wire_values.specs.Power.{power_bytes}
use Rattle.byte_numbers.specs.Number.{bytes_of}
use Rattle.byte_numbers.proofs.PlaceLaws.{onward, written-past}
use Rattle.wire_values.proofs.power.put_phases.Goals as goal

pub returns-then-at-out : goal.returns-then-at-out
unfolding power_bytes bytes_of
returns-then-at-out c =
    onward _ _ _ _ _ _ _ c.put_power.ensures
    (onward _ _ _ _ _ _ _ c.put_power-then-at-out.ensures c.put_power-then-at-out-2.ensures (omega arith)) refl

pub returns-else-at-out : goal.returns-else-at-out
returns-else-at-out c = sym (written-past _ _ _ c.if-at-out.false)
