-- The definitions and the kit's floats: `worth` is the number that `of_bits` reads, `kwh_bits n` has the bits of what `round` makes of n / 1,000,000, and
-- the float with these bits is finite and has them again.
use mathlib.Core.Path.{◌≡◌, refl, sym, ap, ◌∙◌, subst}
use Prim.Native.Nat.{ℕ, compare, zero, suc, ◌+◌, ◌-◌, ◌*◌, ◌/◌, ◌%◌, ◌^◌, ◌≤◌, ◌<◌}
use native.Mathlib.Nat.{le_trans, mul-one, mul-div_cancel}
use native.Mathlib.Omega.{arith}
use mathlib.Core.Bool.{true, false, not, cond, true≢false}
use lib.Dec.{T, leb, eqb, leb→le, eqb→eq, not_T}
use lib.Ieee.{Float, nan, inf, fin, binary32, size, odd, of_fields, of_bits, round, to_bits, is_nan, down}
use lib.Ieee.Fits.{down_pos, nearest-le}
use lib.Ieee.Nearest.{closest, nearest-ge}
use lib.Ieee.Bits.{is_false, cond_no, to_bits-of_bits}
use lib.Ieee.Exact.{HasValue, odd_sign}
use lib.Ieee.Scale.{grid, overflow, round_val}
use Rattle.kilowatt_hours.specs.Bits.{kwh_bits}
use Rattle.kilowatt_hours.specs.Nearest.{infinity, steps, worth}
use Rattle.kilowatt_hours.proofs.Worth.{worth-at, worth-lt}
use Rattle.kilowatt_hours.proofs.NearestLaws.{kwh-nearest, kept_under, kept_full}

-- ---- bits as the kit reads them

no-infinity : (x : ℕ) → x < 255 → T (not (eqb x 255))
no-infinity x h = not_T (eqb x 255) (λ (u : T (eqb x 255)). let e : x ≡ 255 = eqb→eq x 255 u in omega arith)

fields : (x t : ℕ) → x < 255 → HasValue (of_fields binary32 false x t) false (steps x t) (2 ^ 149)
unfolding of_fields steps
fields zero t h = rw (mul-one t) at (odd_sign 24 false t 0 149)
fields (suc x) t h =
    subst (λ (v : Float). HasValue v false ((8388608 + t) * 2 ^ x) (2 ^ 149))
    (sym (cond_no (eqb (suc x) 255) (cond (eqb t 0) (inf false) nan) (odd 24 false (8388608 + t) x 149) (no-infinity (suc x) h)))
    (odd_sign 24 false (8388608 + t) x 149)

-- `worth` is what the kit's own reading of the bits gives
pub bits-worth : (b : ℕ) → b < infinity → HasValue (of_bits binary32 b) false (worth b) (2 ^ 149)
unfolding of_bits worth
bits-worth b h =
    let no = not_T (leb 2147483648 b) (λ (u : T (leb 2147483648 b)). let g : 2147483648 ≤ b = leb→le 2147483648 b u in omega arith) in
    let p : leb 2147483648 b ≡ false = is_false (leb 2147483648 b) no in
    let q : b % 2147483648 ≡ b = omega arith in
    rw (p, q) (fields (b / 8388608) (b % 8388608) (omega arith))

value-number : (x : Float) (a : ℕ) → HasValue x false a (2 ^ 149) → T (not (is_nan x))
unfolding is_nan
value-number nan a h = elim h [ ]
value-number (inf _) a h = elim h [ ]
value-number (fin s m e) a h = tt

-- and has these bits
pub kwh-back : (n : ℕ) → n < 2 ^ 64 → to_bits binary32 (of_bits binary32 (kwh_bits n)) ≡ kwh_bits n
kwh-back n h =
    let f : kwh_bits n < infinity = (kwh-nearest n h).finite in
    to_bits-of_bits binary32 (kwh_bits n) (omega arith) (value-number (of_bits binary32 (kwh_bits n)) (worth (kwh_bits n)) (bits-worth (kwh_bits n) f))

-- ---- the same number as the kit's rounding

worth-kwh : (n : ℕ) → worth (kwh_bits n) ≡ grid binary32 n 1000000
unfolding kwh_bits
worth-kwh n =
    let u = n * 2 ^ 149 in
    let k = size (u / 1000000) - 24 in
    let U = 1000000 * 2 ^ k in
    let o = compare (u % U * 2) U in
    worth-at k (closest u U) (le_trans (nearest-le (u / U) o) (kept_under u)) (λ (h : 0 < k). le_trans (kept_full u h) (nearest-ge (u / U) o))

top-worth : worth infinity ≡ overflow binary32
unfolding worth steps
top-worth = refl

round-worth : (n : ℕ) → n < 2 ^ 64 → HasValue (round binary32 false n 1000000) false (worth (kwh_bits n)) (2 ^ 149)
round-worth n h =
    let l : worth (kwh_bits n) < overflow binary32 = rw top-worth at (worth-lt (kwh_bits n) infinity (kwh-nearest n h).finite) in
    rw (worth-kwh n) (round_val binary32 n 1000000 (rw (worth-kwh n) at l))

-- ---- and the same bits: those of a float that is not negative are told by its value

told : ℕ → ℕ
told a = 0 + (size a - 24) * 8388608 + a / 2 ^ (size a - 24)

bits-told : (x : Float) (a : ℕ) → HasValue x false a (2 ^ 149) → to_bits binary32 x ≡ told a
unfolding to_bits told
bits-told nan a h = elim h [ ]
bits-told (inf _) a h = elim h [ ]
bits-told (fin true m e) a h = absurd (true≢false h.0)
bits-told (fin false m e) a h = ap told (ap (λ (z : ℕ). z / down e) h.1 ∙ mul-div_cancel a (down_pos e))

-- and the bits are those of the kit's own rounding: the second opinion in `NearestFloat`
pub kwh-is-round : (n : ℕ) → n < 2 ^ 64 → kwh_bits n ≡ to_bits binary32 (round binary32 false n 1000000)
kwh-is-round n h =
    let a = worth (kwh_bits n) in
    sym (kwh-back n h)
    ∙ bits-told (of_bits binary32 (kwh_bits n)) a (bits-worth (kwh_bits n) (kwh-nearest n h).finite)
    ∙ sym (bits-told (round binary32 false n 1000000) a (round-worth n h))
