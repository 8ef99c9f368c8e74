-- `bits_of` meets its contract: the bits of what is no number are NO_NUMBER.
use mathlib.Core.Path.{◌≡◌, refl, sym, ◌∙◌}
use mathlib.Core.Bool.{true, false≢true}
use lib.Ieee.{Float, nan, inf, fin, is_nan, to_bits}
use Rattle.wire_values.specs.Power.{bits_of}
use Rattle.wire_values.proofs.power.bits_of.Goals as goal

no_number : (x : Float) → is_nan x ≡ true → 0x7FC00000 ≡ bits_of x
unfolding is_nan to_bits
no_number nan e = refl
no_number (inf s) e = absurd (false≢true e)
no_number (fin s m k) e = absurd (false≢true e)

pub returns-then-is_nan : goal.returns-then-is_nan
returns-then-is_nan c = no_number c.args.x (sym c.is_nan.ensures.value ∙ c.if-is_nan.true)
