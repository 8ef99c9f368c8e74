-- What the bench's bounds say of the powers. Source: document 01, "Powers": "The bench sets only finite figures from -1,000,000 to 1,000,000."
-- So the total of three such powers is finite too, and the meter's reply is one that the reader takes.
use Rattle.std.specs.Prelude.{Some}
use mathlib.Core.Path.{◌≡◌, refl, sym, subst}
use lib.Ieee.{binary32, of_bits, of_int, Float, nan, inf, fin, le}
use lib.IntN.{pos, negsuc}
use mathlib.Core.Bool.{Bool, true, false, ◌&&◌}
use mathlib.Core.List.{List, ◌++◌}
use Prim.Native.Nat.{ℕ}
use native.Mathlib.Nat.{mul-one}
use lib.Dec.{T, lit≤}
use lib.Ieee.Fits.{and_l, and_r}
use lib.Ieee.Scale.{finite}
use Rattle.wire_values.specs.Power.{total_of, powers_of, powers_bytes, FitsPhases}
use Rattle.wire_values.proofs.PowerLaws.{FinitePhases, powers_of-bytes}
use Rattle.wire_values.proofs.Within.{Within, within-finite, not-above, not-below, total-within}
use Rattle.wire_values.specs.declared.power.Phases.{Phases}
use Rattle.meter_record.specs.Power.{most, least, in_bounds, are_powers}

-- "to 1,000,000": the upper bound, given by its bits, is the float of that number
pub most-is : most ≡ of_int binary32 (pos 1000000)
unfolding of_bits of_int
most-is = refl

-- "from -1,000,000": and the lower bound that of its opposite
pub least-is : least ≡ of_int binary32 (negsuc 999999)
unfolding of_bits of_int
least-is = refl

-- ---- one power: a bound is 15,625 * 2 ^ 6, which is 1,000,000

most-fin : most ≡ fin false 15625 (pos 6)
unfolding of_bits
most-fin = refl

least-fin : least ≡ fin true 15625 (pos 6)
unfolding of_bits
least-fin = refl

le-within : (x : Float) → T (le (fin true 15625 (pos 6)) x) → T (le x (fin false 15625 (pos 6))) → Within 1000000 x
le-within nan l h = unfold le in absurd l
le-within (inf true) l h = unfold le in absurd l
le-within (inf false) l h = unfold le in absurd h
le-within (fin true m e) l h = rw mul-one at (not-below m e 15625 (pos 6) l)
le-within (fin false m e) l h = rw mul-one at (not-above m e 15625 (pos 6) h)

-- a power that the bench's test lets pass lies from -1,000,000 to 1,000,000
pub bounds-within : (x : Float) → in_bounds x ≡ true → Within 1000000 x
unfolding in_bounds
bounds-within x e =
    let t : T (le least x && le x most) = subst T (sym e) tt in
    le-within x
    (subst (λ (y : Float). T (le y x)) least-fin (and_l (le least x) (le x most) t))
    (subst (λ (y : Float). T (le x y)) most-fin (and_r (le least x) (le x most) t))

-- so it is finite
pub bounds-finite : (x : Float) → in_bounds x ≡ true → finite x ≡ true
bounds-finite x e = within-finite 1000000 x (bounds-within x e)

-- ---- three phases

-- what `are_powers` tests, phase by phase
pub record BoundsPhases (p : Phases) : Type 0 where
  pub a : in_bounds p.a ≡ true
  pub b : in_bounds p.b ≡ true
  pub c : in_bounds p.c ≡ true

three : (a b c : Bool) → a && b && c ≡ true → (a ≡ true) × (b ≡ true) × (c ≡ true)
three true true true e = (refl, refl, refl)
three true true false e = absurd (subst T (sym e) tt)
three true false c e = absurd (subst T (sym e) tt)
three false b c e = absurd (subst T (sym e) tt)

-- three powers that pass have each passed
pub powers-bounds : (p : Phases) → are_powers p ≡ true → BoundsPhases p
unfolding are_powers
powers-bounds p e =
    let t = three (in_bounds p.a) (in_bounds p.b) (in_bounds p.c) e in
    record { a = t.0; b = t.1; c = t.2 }

-- the total of three powers that the bench sets is finite, as it is at most 3,000,000
pub total-finite : (p : Phases) → are_powers p ≡ true → finite (total_of p) ≡ true
total-finite p e =
    let h = powers-bounds p e in
    within-finite 3000000 (total_of p)
    (total-within 1000000 p (lit≤ tt) (bounds-within p.a h.a) (bounds-within p.b h.b) (bounds-within p.c h.c))

-- the reader gets the powers that the bench set, bit for bit
pub powers-read : (p : Phases) (rest : List ℕ) → FitsPhases p → are_powers p ≡ true
    → powers_of (powers_bytes p ++ rest) ≡ Some (record { total = total_of p; phases = p })
powers-read p rest f e =
    let h = powers-bounds p e in
    let each : FinitePhases p = record { a = bounds-finite p.a h.a; b = bounds-finite p.b h.b; c = bounds-finite p.c h.c } in
    powers_of-bytes p rest f each (total-finite p e)
