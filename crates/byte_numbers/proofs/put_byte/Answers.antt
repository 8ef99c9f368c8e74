-- `put_byte` meets its contract: one store is `written` of one byte, and past the end `written` stores nothing.
use mathlib.Core.Path.{refl, sym}
use Rattle.byte_numbers.specs.Place.{written}
use Rattle.byte_numbers.proofs.PlaceLaws.{written-past}
use Rattle.byte_numbers.proofs.put_byte.Goals as goal

pub returns-then-at-out : goal.returns-then-at-out
unfolding written
returns-then-at-out c = refl

pub returns-else-at-out : goal.returns-else-at-out
returns-else-at-out c = sym (written-past _ _ _ c.if-at-out.false)
