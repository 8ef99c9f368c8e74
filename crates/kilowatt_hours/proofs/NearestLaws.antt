-- The bits of `kwh_bits` are those of the nearest float (`kwh-nearest`), and of no other (`only`): the figure lies between the float of the digits kept
-- and the next one, whose bits are one more. 2 ^ 23 is 8388608 and 2 ^ 24 is 16777216, written out for `omega`.
use mathlib.Core.Path.{◌≡◌, refl, sym, ap, ◌∙◌, subst}
use mathlib.Core.Logic.{inl, inr}
use Prim.Native.Nat.{ℕ, suc, ◌+◌, ◌-◌, ◌*◌, ◌/◌, ◌%◌, ◌^◌, ◌≤◌, ◌<◌, compare, Ordering}
use native.Mathlib.Nat.{le_antisymm, lt_trans, lt_of_lt_of_le, eq-or-lt_of_le, div-add-mod', mod-lt, mul_comm, mul_assoc}
use native.Mathlib.Nat.{mul_left_comm, mul-lt-mul_of_pos_right, mul-pos, suc-mul, le-div_iff_mul-le, div-lt_iff_lt-mul, div-div-eq-div-mul}
use native.Mathlib.Omega.{arith}
use mathlib.Core.Bool.{Bool, true, false, not}
use lib.Dec.{T, ltb, leb→le, ltb→lt, nltb→le}
use lib.Pow.{pow-add, pow_pos}
use lib.Ieee.{size, nearest}
use lib.Ieee.Digits.{size-le, size_reaches}
use lib.Ieee.Fits.{kept-lt, nearest-le}
use Rattle.kilowatt_hours.specs.Bits.{kwh_bits}
use Rattle.kilowatt_hours.specs.Nearest.{steps, worth, apart, off, Nearest}
use Rattle.kilowatt_hours.proofs.BitsLaws.{Cmp, cmp}
use Rattle.kilowatt_hours.proofs.Worth.{worth-at, worth-lt}

-- ---- where a pattern b stands to r and the one after it
data Place (r b : ℕ) : Type 0 where
  less : b < r → worth b < worth r → Place r b
  this : b ≡ r → worth b ≡ worth r → Place r b
  next : b ≡ suc r → worth b ≡ worth (suc r) → Place r b
  more : suc r < b → worth (suc r) < worth b → Place r b

place : (r b : ℕ) → Place r b
place r b = go (ltb b r) (ltb→lt b r) (nltb→le b r)
  where
    go : (t : Bool) → (T t → b < r) → (T (not t) → r ≤ b) → Place r b
    go true y n = less (y tt) (worth-lt b r (y tt))
    go false y n = elim (eq-or-lt_of_le (n tt)) [
      | inl e ↦ this (sym e) (ap worth (sym e))
      | inr l ↦ elim (eq-or-lt_of_le l) [ inl e ↦ next (sym e) (ap worth (sym e)) | inr g ↦ more g (worth-lt (suc r) b g) ]
    ]

-- ---- u lies between the floats r and the one after it, which are U apart, and t above the first
module _ (u U t r : ℕ) (l : t < U) (at : worth r * 1000000 + t ≡ u) (gap : worth (suc r) * 1000000 ≡ worth r * 1000000 + U) where
  lower : t * 2 ≤ U → (b : ℕ) → apart (worth r * 1000000) u ≤ apart (worth b * 1000000) u
  lower h b = elim (place r b) [ less g p ↦ omega arith | this e f ↦ omega arith | next e f ↦ omega arith | more g p ↦ omega arith ]

  upper : U ≤ t * 2 → (b : ℕ) → apart (worth (suc r) * 1000000) u ≤ apart (worth b * 1000000) u
  upper h b = elim (place r b) [ less g p ↦ omega arith | this e f ↦ omega arith | next e f ↦ omega arith | more g p ↦ omega arith ]

  lower-alone : t * 2 < U → (b : ℕ) → apart (worth b * 1000000) u ≡ apart (worth r * 1000000) u → b ≡ r
  lower-alone h b q = elim (place r b) [ less g p ↦ absurd (omega arith) | this e f ↦ e | next e f ↦ absurd (omega arith) | more g p ↦ absurd (omega arith) ]

  upper-alone : U < t * 2 → (b : ℕ) → apart (worth b * 1000000) u ≡ apart (worth (suc r) * 1000000) u → b ≡ suc r
  upper-alone h b q = elim (place r b) [ less g p ↦ absurd (omega arith) | this e f ↦ absurd (omega arith) | next e f ↦ e | more g p ↦ absurd (omega arith) ]

  near : (o : Ordering) → Cmp o (t * 2) U → (b : ℕ) → apart (worth (nearest r o) * 1000000) u ≤ apart (worth b * 1000000) u
  near Ordering.lt h b = lower (omega arith) b
  near Ordering.gt h b = upper (omega arith) b
  near Ordering.eq h b =
      let x : apart (worth r * 1000000) u ≤ apart (worth b * 1000000) u = lower (omega arith) b in
      let y : apart (worth (suc r) * 1000000) u ≤ apart (worth b * 1000000) u = upper (omega arith) b in
      elim (place r (r + r % 2)) [ less g p ↦ absurd (omega arith) | this e f ↦ rw e x | next e f ↦ rw e y | more g p ↦ absurd (omega arith) ]

  tie : (o : Ordering) → Cmp o (t * 2) U → (b : ℕ) → apart (worth b * 1000000) u ≡ apart (worth (nearest r o) * 1000000) u → (b ≡ nearest r o → ⊥)
      → nearest r o % 2 ≡ 0
  tie Ordering.lt h b e d = absurd (d (lower-alone h b e))
  tie Ordering.gt h b e d = absurd (d (upper-alone h b e))
  tie Ordering.eq h b e d = omega arith

-- ---- q, the whole part that is kept, has 24 digits where any is dropped
module _ (u : ℕ) where
  -- the quotient that is kept is below the float's next exponent
  pub kept_under : let k = size (u / 1000000) - 24 in u / (1000000 * 2 ^ k) < 16777216
  kept_under =
      let k = size (u / 1000000) - 24 in
      rw (div-div-eq-div-mul u 1000000 (2 ^ k)) at (kept-lt 24 (u / 1000000))

  -- and it fills the float's digits, but for the smallest numbers
  pub kept_full : let k = size (u / 1000000) - 24 in 0 < k → 8388608 ≤ u / (1000000 * 2 ^ k)
  kept_full h =
      let k = size (u / 1000000) - 24 in
      let x : 2 ^ (23 + k) ≡ 8388608 * 2 ^ k = pow-add 2 23 k in
      let y : 2 ^ (23 + k) ≤ u / 1000000 = size_reaches (u / 1000000) (23 + k) (omega arith) in
      rw (div-div-eq-div-mul u 1000000 (2 ^ k)) at ((le-div_iff_mul-le (pow_pos k)).1 (rw x at y))

-- ---- the definition is such a choice: the pattern of the kept digits, or the next one
split : (k q : ℕ) (o : Ordering) → k * 8388608 + nearest q o ≡ nearest (k * 8388608 + q) o
split k q Ordering.lt = refl
split k q Ordering.eq = omega arith
split k q Ordering.gt = omega arith

here : (k q : ℕ) → q < 16777216 → (0 < k → 8388608 ≤ q) → worth (k * 8388608 + q) * 1000000 ≡ q * (1000000 * 2 ^ k)
here k q l h = rw (worth-at k q (omega arith) h) (simp (mul_assoc, mul_comm, mul_left_comm))

there : (k q : ℕ) → q < 16777216 → (0 < k → 8388608 ≤ q) → worth (suc (k * 8388608 + q)) * 1000000 ≡ worth (k * 8388608 + q) * 1000000 + 1000000 * 2 ^ k
there k q l h =
    let s : k * 8388608 + suc q ≡ suc (k * 8388608 + q) = omega arith in
    let e : worth (suc (k * 8388608 + q)) ≡ suc q * 2 ^ k = ap worth (sym s) ∙ worth-at k (suc q) l (λ (p : 0 < k). let g : 8388608 ≤ q = h p in omega arith) in
    let f : worth (k * 8388608 + q) ≡ q * 2 ^ k = worth-at k q (omega arith) h in
    let g : suc q * 2 ^ k ≡ q * 2 ^ k + 2 ^ k = suc-mul q (2 ^ k) in
    omega arith

-- below 2 ^ 64 the float is finite: at most 170 digits are dropped
few : (n : ℕ) → n < 2 ^ 64 → size (n * 2 ^ 149 / 1000000) - 24 ≤ 170
few n h =
    let small : n * 2 ^ 149 < 2 ^ 194 * 1000000 = lt_of_lt_of_le (mul-lt-mul_of_pos_right h (pow_pos 149)) (leb→le (2 ^ 64 * 2 ^ 149) (2 ^ 194 * 1000000) tt) in
    let a : size (n * 2 ^ 149 / 1000000) ≤ 194 = size-le (n * 2 ^ 149 / 1000000) 194 ((div-lt_iff_lt-mul (leb→le 1 1000000 tt)).1 small) in
    omega arith

worth-zero : worth 0 ≡ 0
unfolding worth steps
worth-zero = refl

far : (u w d : ℕ) → d ≤ apart (worth 0 * 1000000) u → d ≤ w * 1000000 + u
far u w d h = omega (arith, worth-zero)

-- the claim `NearestFloat` rests on it: no finite float is nearer
pub kwh-nearest : (n : ℕ) → n < 2 ^ 64 → Nearest n (kwh_bits n)
unfolding kwh_bits
kwh-nearest n h =
    let u = n * 2 ^ 149 in
    let k = size (u / 1000000) - 24 in
    let U = 1000000 * 2 ^ k in
    let q = u / U in
    let t = u % U in
    let o = compare (t * 2) U in
    let c : Cmp o (t * 2) U = cmp (t * 2) U in
    let l : t < U = mod-lt u (mul-pos (leb→le 1 1000000 tt) (pow_pos k)) in
    let r = k * 8388608 + q in
    let z : worth r * 1000000 + t ≡ u = ap (λ (x : ℕ). x + t) (here k q (kept_under u) (kept_full u)) ∙ div-add-mod' u U in
    let g : worth (suc r) * 1000000 ≡ worth r * 1000000 + U = there k q (kept_under u) (kept_full u) in
    subst (λ (x : ℕ). Nearest n x) (sym (split k q o)) (record {
      finite = omega (arith, few n h, kept_under u, nearest-le r o);
      nearest = λ b f. near u U t r l z g o c b;
      even = λ b f e d. tie u U t r l z g o c b e d;
      negative = λ b f. far u (worth b) (apart (worth (nearest r o) * 1000000) u) (near u U t r l z g o c 0);
    })

-- ---- and it is the only one
-- two that are as near as can be and both even have one between them
two : (n r s : ℕ) → r < s → Nearest n r → Nearest n s → ⊥
two n r s l a b =
    apart-two (n * 2 ^ 149) r s l (a.nearest s b.finite) (b.nearest r a.finite) (λ (g : suc r < s). a.nearest (suc r) (lt_trans g b.finite))
    (λ (e : off n s ≡ off n r). a.even s b.finite e (λ (p : s ≡ r). omega arith))
    (λ (e : off n r ≡ off n s). b.even r a.finite e (λ (p : r ≡ s). omega arith))
  where
    apart-two : (u r s : ℕ) → r < s → apart (worth r * 1000000) u ≤ apart (worth s * 1000000) u → apart (worth s * 1000000) u ≤ apart (worth r * 1000000) u
        → (suc r < s → apart (worth r * 1000000) u ≤ apart (worth (suc r) * 1000000) u)
        → (apart (worth s * 1000000) u ≡ apart (worth r * 1000000) u → r % 2 ≡ 0)
        → (apart (worth r * 1000000) u ≡ apart (worth s * 1000000) u → s % 2 ≡ 0) → ⊥
    apart-two u r s l x y f p q =
        let e : apart (worth r * 1000000) u ≡ apart (worth s * 1000000) u = le_antisymm x y in
        let a : r % 2 ≡ 0 = p (sym e) in
        let b : s % 2 ≡ 0 = q e in
        let g : suc r < s = omega arith in
        omega (arith, f g, worth-lt r (suc r) (omega arith), worth-lt (suc r) s g)

-- nor is any other as good, so that the bits are settled
pub only : (n r s : ℕ) → Nearest n r → Nearest n s → r ≡ s
only n r s a b = go (compare r s) (cmp r s)
  where
    go : (o : Ordering) → Cmp o r s → r ≡ s
    go Ordering.lt l = absurd (two n r s l a b)
    go Ordering.eq e = e
    go Ordering.gt l = absurd (two n s r l b a)
