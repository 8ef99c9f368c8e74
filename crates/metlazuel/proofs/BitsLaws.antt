-- What follows from the definitions of specs/Bits.antt, for proofs alone: no contract cites it.
use Rattle.std.specs.Prelude.{None, Option, Some}
use mathlib.Core.Path.{◌≡◌, refl, sym, ◌∙◌}
use mathlib.Core.Bool.{Bool, true, false}
use Prim.Native.Nat.{ℕ}
use lib.Ieee.{Float, inf, binary32, of_bits, le}
use lib.Ieee.Scale.{finite}
use Rattle.wire_values.specs.declared.power.Phases.{Phases}
use Rattle.meter_record.specs.Power.{in_bounds, are_powers}
use Rattle.meter_record.proofs.PowerLaws.{bounds-finite, powers-bounds}
use Rattle.meter_record.specs.Record.{set_powers}
use Rattle.meter_record.specs.declared.record.Record.{Record}
use Rattle.metlazuel.specs.MeterCalls.{phases_from, powers_in}
use Rattle.metlazuel.specs.Bits.{float_from}

-- the powers as the code hands them on: the infinity in place of what is not finite
abbrev pub phases_handed : ℕ → ℕ → ℕ → Phases
phases_handed a b c = record { a = float_from a; b = float_from b; c = float_from c }

from-finite : (n : ℕ) → finite (of_bits binary32 n) ≡ true → float_from n ≡ of_bits binary32 n
unfolding float_from
from-finite n e = rw e

infinity-out : in_bounds (inf false) ≡ false
unfolding in_bounds le of_bits
infinity-out = refl

not-finite-out : (x : Float) → finite x ≡ false → in_bounds x ≡ false
not-finite-out x e = go (in_bounds x) refl
  where
    go : (b : Bool) → in_bounds x ≡ b → in_bounds x ≡ false
    go false q = q
    go true q =
        let t : finite x ≡ true = bounds-finite x q in
        cc

bounds-from : (n : ℕ) → in_bounds (float_from n) ≡ in_bounds (of_bits binary32 n)
unfolding float_from
bounds-from n = go (finite (of_bits binary32 n)) refl
  where
    go : (b : Bool) → finite (of_bits binary32 n) ≡ b → in_bounds (float_from n) ≡ in_bounds (of_bits binary32 n)
    go true e = rw e
    go false e = rw e (infinity-out ∙ sym (not-finite-out (of_bits binary32 n) e))

powers-alike : (a b c : ℕ) → are_powers (phases_handed a b c) ≡ are_powers (phases_from a b c)
unfolding are_powers
powers-alike a b c = rw (bounds-from a, bounds-from b, bounds-from c)

set-alike : (r : Record) (n a b c : ℕ) → set_powers r n (phases_handed a b c) ≡ set_powers r n (phases_from a b c)
unfolding set_powers
set-alike r n a b c = go (are_powers (phases_from a b c)) refl
  where
    go : (q : Bool) → are_powers (phases_from a b c) ≡ q → set_powers r n (phases_handed a b c) ≡ set_powers r n (phases_from a b c)
    go false e = rw (powers-alike a b c, e)
    go true e =
        let h = powers-bounds (phases_from a b c) e in
        rw (
          from-finite a (bounds-finite (of_bits binary32 a) h.a),
          from-finite b (bounds-finite (of_bits binary32 b) h.b),
          from-finite c (bounds-finite (of_bits binary32 c) h.c),
        )

-- so the answer is that to the powers with these bits
pub powers-from : (x : Option Record) (n a b c : ℕ) → powers_in x n (phases_handed a b c) ≡ powers_in x n (phases_from a b c)
unfolding powers_in
powers-from (Some r) n a b c = set-alike r n a b c
powers-from None n a b c = refl
