-- The reader gets the meter's powers back bit for bit: what `power_bytes` and `powers_bytes` write, `power_of` and `powers_of` read.
-- Source: document 01, "Powers": "three phase powers in floating point belong together as one reading".
use Rattle.std.specs.Prelude.{Some}
use mathlib.Core.Path.{◌≡◌, refl, ap, ◌∙◌}
use mathlib.Core.Bool.{Bool, true, false, cond, not}
use Prim.Native.Nat.{ℕ, zero, suc, ◌+◌, ◌/◌, ◌%◌, ◌≤◌, ◌<◌}
use native.Mathlib.Omega.{arith}
use borrow.Author.Tests.{ltb-true, ltb-false, eq-eqb, ne_eqb}
use lib.Dec.{T, eqb, ltb, leb}
use lib.ListN.{length, drop}
use lib.Ieee.{Float, nan, inf, binary32, prec, low, hid, odd, of_fields, of_bits, fits}
use lib.Ieee.Scale.{finite}
use mathlib.Core.List.{List, ◌++◌, append_assoc}
use native.Mathlib.Nat.{mod-eq_of_lt}
use lib.Ieee.Bits.{of_bits-to_bits, to_bits-lt}
use lib.Ieee.Fits.{add-fits}
use lib.Seq.{drop_at}
use Rattle.byte_numbers.proofs.NumberLaws.{length-bytes_of}
use Rattle.byte_numbers.specs.Number.{bytes_of}
use Rattle.byte_numbers.specs.Place.{number_at}
use Rattle.byte_numbers.proofs.PlaceLaws.{number_at-front, number_at-behind-bytes}
use Rattle.wire_values.specs.Power.{bits_of, power_bytes, total_of, float_at, power_of, together, phases_of, powers_of, phases_bytes, powers_bytes, FitsPhases}
use Rattle.wire_values.specs.declared.power.Phases.{Phases}

-- ---- whether a float is finite shows in its bits

odd-finite : (d : ℕ) (s : Bool) (q k l : ℕ) → finite (odd d s q k l) ≡ true
unfolding odd
odd-finite d s zero k l = refl
odd-finite d s (suc q) k l = refl

fields-finite : (a b : Bool) (s : Bool) (v : Float) → finite v ≡ true → finite (cond a (cond b (inf s) nan) v) ≡ not a
fields-finite true true s v h = refl
fields-finite true false s v h = refl
fields-finite false b s v h = h

of_fields-finite : (s : Bool) (x t : ℕ) → finite (of_fields binary32 s x t) ≡ not (eqb x 255)
unfolding of_fields
of_fields-finite s zero t = odd-finite (prec binary32) s t 0 (low binary32)
of_fields-finite s (suc x) t =
    let v = odd (prec binary32) s (hid binary32 + t) x (low binary32) in
    fields-finite (eqb (suc x) 255) (eqb t 0) s v (odd-finite (prec binary32) s (hid binary32 + t) x (low binary32))

-- without its sign, what is finite is a number below the infinity's
pub finite-bits : (n : ℕ) → finite (of_bits binary32 n) ≡ ltb (n % 0x80000000) 0x7F800000
unfolding of_bits
finite-bits n = of_fields-finite (leb 0x80000000 n) (n % 0x80000000 / 0x800000) (n % 0x800000) ∙ go (ltb (n % 0x80000000) 0x7F800000) refl
  where
    go : (b : Bool) → ltb (n % 0x80000000) 0x7F800000 ≡ b → not (eqb (n % 0x80000000 / 0x800000) 255) ≡ b
    go true e =
        let h : n % 0x80000000 < 0x7F800000 = ltb-true _ _ e in
        ap not (ne_eqb (n % 0x80000000 / 0x800000) 255 (λ q. omega arith))
    go false e =
        let h : 0x7F800000 ≤ n % 0x80000000 = ltb-false _ _ e in
        let q : n % 0x80000000 / 0x800000 ≡ 255 = omega arith in
        ap not (eq-eqb (n % 0x80000000 / 0x800000) 255 q)

-- a power is four bytes
pub length-power_bytes : (x : Float) → length (power_bytes x) ≡ 4
unfolding power_bytes
length-power_bytes x = length-bytes_of 4 (bits_of x)

-- a total is rounded to 32 bits, whatever the phases are
pub total-fits : (p : Phases) → T (fits binary32 (total_of p))
unfolding total_of
total-fits p = add-fits binary32 _ p.c

-- ---- one float, at the front and behind another

-- a float of 32 bits is read back from the front, bit for bit
pub float_at-front : (x : Float) (rest : List ℕ) → T (fits binary32 x) → float_at (power_bytes x ++ rest) 0 ≡ x
unfolding float_at power_bytes
float_at-front x rest h =
    let bits : number_at (bytes_of 4 (bits_of x) ++ rest) 0 4 ≡ bits_of x =
    number_at-front 4 (bits_of x) rest ∙ mod-eq_of_lt (to_bits-lt binary32 x h) in
    ap (of_bits binary32) bits ∙ of_bits-to_bits binary32 x h

-- what stands behind a power is read as it would be alone
pub float_at-behind : (x : Float) (rest : List ℕ) (i : ℕ) → float_at (power_bytes x ++ rest) (4 + i) ≡ float_at rest i
unfolding float_at power_bytes
float_at-behind x rest i = ap (of_bits binary32) (number_at-behind-bytes 4 (bits_of x) rest i 4)

-- ---- one power

power_of-float : (bs : List ℕ) (i : ℕ) (x : Float) → float_at bs i ≡ x → finite x ≡ true → power_of bs i ≡ Some x
unfolding power_of
power_of-float bs i x e h = rw (e, h)

-- a finite power is read back as one
pub power_of-bytes : (x : Float) (rest : List ℕ) → T (fits binary32 x) → finite x ≡ true
    → power_of (power_bytes x ++ rest) 0 ≡ Some x
power_of-bytes x rest f h = power_of-float _ 0 x (float_at-front x rest f) h

-- ---- the phases, and the total before them

-- all three powers are finite
pub record FinitePhases (p : Phases) : Type 0 where
  pub a : finite p.a ≡ true
  pub b : finite p.b ≡ true
  pub c : finite p.c ≡ true

-- three finite powers are read back from their bytes, in their order
pub phases_of-bytes : (p : Phases) (rest : List ℕ) → FitsPhases p → FinitePhases p → phases_of (phases_bytes p ++ rest) ≡ Some p
unfolding phases_of together
phases_of-bytes p rest f h =
    let from-c = power_bytes p.c ++ rest in
    let from-b = power_bytes p.b ++ from-c in
    let bs = power_bytes p.a ++ from-b in
    let apart : phases_bytes p ++ rest ≡ bs = simp append_assoc in
    let at-4 : float_at bs 4 ≡ p.b = float_at-behind p.a from-b 0 ∙ float_at-front p.b from-c f.b in
    let at_8 : float_at bs 8 ≡ p.c = float_at-behind p.a from-b 4 ∙ float_at-behind p.b from-c 0 ∙ float_at-front p.c rest f.c in
    rw (apart, power_of-bytes p.a from-b f.a h.a, power_of-float bs 4 p.b at-4 h.b, power_of-float bs 8 p.c at_8 h.c)

-- and with them their total, which stands before them, where it is finite too
pub powers_of-bytes : (p : Phases) (rest : List ℕ) → FitsPhases p → FinitePhases p → finite (total_of p) ≡ true
    → powers_of (powers_bytes p ++ rest) ≡ Some (record { total = total_of p; phases = p })
unfolding powers_of powers_bytes
powers_of-bytes p rest f h ht =
    let behind : drop 4 (power_bytes (total_of p) ++ (phases_bytes p ++ rest)) ≡ phases_bytes p ++ rest =
    drop_at (power_bytes (total_of p)) (phases_bytes p ++ rest) 4 (length-power_bytes (total_of p)) in
    rw (append_assoc, power_of-bytes (total_of p) (phases_bytes p ++ rest) (total-fits p) ht, behind, phases_of-bytes p rest f h)
