-- Parameters 8 and 9. Source: document 01, "Powers": "three phase powers in floating point belong together as one reading; detail 0
-- answers the total and A, B, C, details 1 to 3 one phase. The total is (A + B) + C, each sum rounded once to 32 bits."; 002, figure 9 (page 9).
use Rattle.wire_values.specs.declared.power.Powers.{Powers}
use Rattle.std.specs.Prelude.{Bool, cond, List, ◌++◌, ℕ, drop, Float, T, None, Option, Some}
use Rattle.std.specs.Float.{binary32}
use Rattle.std.specs.Float.Ieee.{add, of_bits, to_bits, fits}
use Rattle.std.specs.Float.Ieee.Scale.{finite}
use Rattle.byte_numbers.specs.Number.{bytes_of}
use Rattle.byte_numbers.specs.Place.{number_at}
use Rattle.wire_values.specs.declared.power.Phases.{Phases}

-- the total: two sums, each rounded once
unfoldable pub total_of : Phases → Float
total_of p = add binary32 (add binary32 p.a p.b) p.c

-- the float that four bytes from place i on stand for
unfoldable pub float_at : List ℕ → ℕ → Float
float_at bs i = of_bits binary32 (number_at bs i 4)

-- whether a float's bits are those of a number
abbrev pub is_finite : ℕ → Bool
is_finite n = finite (of_bits binary32 n)

-- one power: document 01's 26 is for "an infinity or no number"
unfoldable pub power_of : List ℕ → ℕ → Option Float
power_of bs i = cond (finite (float_at bs i)) (Some (float_at bs i)) None

-- A, B and C: all of them finite, or none is handed over
unfoldable pub together : Option Float → Option Float → Option Float → Option Phases
together None b c = None
together (Some a) None c = None
together (Some a) (Some b) None = None
together (Some a) (Some b) (Some c) = Some (record { a = a; b = b; c = c })

unfoldable pub phases_of : List ℕ → Option Phases
phases_of bs = together (power_of bs 0) (power_of bs 4) (power_of bs 8)

-- all four: the total first, then A, B and C; all of them finite, or none is handed over
pub with_total : Option Float → Option Phases → Option Powers
with_total None p = None
with_total (Some total) None = None
with_total (Some total) (Some p) = Some (record { total = total; phases = p })

unfoldable pub powers_of : List ℕ → Option Powers
unfolding with_total
powers_of bs = with_total (power_of bs 0) (phases_of (drop 4 bs))

-- the bits of a float
abbrev pub bits_of : Float → ℕ
bits_of x = to_bits binary32 x

-- the four bytes of one power
unfoldable pub power_bytes : Float → List ℕ
power_bytes x = bytes_of 4 (bits_of x)

-- the twelve bytes of the phases
abbrev pub phases_bytes : Phases → List ℕ
phases_bytes p = power_bytes p.a ++ (power_bytes p.b ++ power_bytes p.c)

-- the sixteen bytes of the total and the phases
unfoldable pub powers_bytes : Phases → List ℕ
powers_bytes p = power_bytes (total_of p) ++ phases_bytes p

-- each phase is a float of 32 bits, as those of a Rattle value are
pub record FitsPhases (p : Phases) : Type 0 where
  pub a : T (fits binary32 p.a)
  pub b : T (fits binary32 p.b)
  pub c : T (fits binary32 p.c)
