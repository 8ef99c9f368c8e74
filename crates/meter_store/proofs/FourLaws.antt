-- A walk over the places that passes four at a time where none of them has the day and the number. Document 01 asks for no particular way.
use Prim.Native.Nat.{ℕ, zero, suc, ◌+◌, ◌*◌, ◌<◌, ◌≤◌}
use native.Mathlib.Nat.{add-zero, zero-add, suc-add}
use native.Mathlib.Omega.{arith}
use mathlib.Core.Path.{◌≡◌, refl, sym, ap, ◌∙◌}
use mathlib.Core.Bool.{Bool, true, false, ◌&&◌}
use mathlib.Core.List.{List}
use lib.Dec.{eqb}
use borrow.Author.Tests.{eqb-true, eqb-false, eq-eqb, ne_eqb}
use Rattle.byte_numbers.specs.Place.{byte_at}
use Rattle.slots.specs.declared.key.Key.{Key}
use Rattle.meter_store.specs.Store.{key_of, key_at, same_key, first_from, is_day}
use Rattle.meter_store.proofs.FindLaws.{first-hit, first-miss, first-end}

-- ---- one comparison for two bytes

-- `is_day` compares two bytes as one number
pub two_bytes : (a b c d : ℕ) → a < 256 → b < 256 → c < 256 → d < 256 → eqb (a * 256 + b) (c * 256 + d) ≡ eqb b d && eqb a c
two_bytes a b c d ha hb hc hd = go (eqb b d) refl (eqb a c) refl
  where
    go : (x : Bool) → eqb b d ≡ x → (y : Bool) → eqb a c ≡ y → eqb (a * 256 + b) (c * 256 + d) ≡ eqb b d && eqb a c
    go true p true q = rw (p, q) (eq-eqb (a * 256 + b) (c * 256 + d) (omega (arith, eqb-true b d p, eqb-true a c q)))
    go true p false q = rw (p, q) (ne_eqb (a * 256 + b) (c * 256 + d) (omega (arith, eqb-true b d p, eqb-false a c q)))
    go false p y q = rw p (ne_eqb (a * 256 + b) (c * 256 + d) (omega (arith, eqb-false b d p)))

-- ---- a place without the day and the number has no key with them

last-two : (x y z : Bool) → y && z ≡ false → x && y && z ≡ false
last-two true y z e = e
last-two false y z e = refl

-- a place whose day or number is another's is not the key's
pub day_misses : (s : List ℕ) (i month day number : ℕ) → is_day s (11 * i) day number ≡ false
    → same_key (key_at s i) (key_of month day number) ≡ false
unfolding is_day same_key key_at
day_misses s i month day number e =
    last-two (eqb (byte_at s (11 * i)) month) (eqb (byte_at s (11 * i + 1)) day) (eqb (byte_at s (11 * i + 2)) number) e

-- ---- four places, one behind the other

-- four places passed over at once
pub four_miss : (s : List ℕ) (k : Key) (i : ℕ) → same_key (key_at s i) k ≡ false → same_key (key_at s (suc i)) k ≡ false
    → same_key (key_at s (suc (suc i))) k ≡ false → same_key (key_at s (suc (suc (suc i)))) k ≡ false → first_from s k i 4 ≡ i + 4
unfolding first_from
four_miss s k i a b c d = simp (a, b, c, d) (omega arith)

-- ---- a walk in two parts

-- the first part found nothing: the second goes on behind it
pub first_on : (s : List ℕ) (k : Key) (i n m : ℕ) → first_from s k i n ≡ i + n → first_from s k i (n + m) ≡ first_from s k (i + n) m
first_on s k i zero m e = rw (zero-add, add-zero)
first_on s k i (suc n) m e = go (same_key (key_at s i) k) refl (first_on s k (suc i) n m)
  where
    go : (b : Bool) → same_key (key_at s i) k ≡ b
        → (first_from s k (suc i) n ≡ suc i + n → first_from s k (suc i) (n + m) ≡ first_from s k (suc i + n) m)
        → first_from s k i (suc n + m) ≡ first_from s k (i + suc n) m
    go true q on = absurd (omega (arith, e, first-hit s k i n q))
    go false q on =
        let there : suc i + n ≡ i + suc n = omega arith in
        rw suc-add
        (first-miss s k i (n + m) q
        ∙ on (sym (first-miss s k i n q) ∙ e ∙ sym there)
        ∙ ap (λ (j : ℕ). first_from s k j m) there)

-- the first part found it
pub first-in : (s : List ℕ) (k : Key) (i n m : ℕ) → first_from s k i n < i + n → first_from s k i (n + m) ≡ first_from s k i n
first-in s k i zero m h = absurd (omega (arith, first-end s k i))
first-in s k i (suc n) m h = go (same_key (key_at s i) k) refl (first-in s k (suc i) n m)
  where
    go : (b : Bool) → same_key (key_at s i) k ≡ b
        → (first_from s k (suc i) n < suc i + n → first_from s k (suc i) (n + m) ≡ first_from s k (suc i) n)
        → first_from s k i (suc n + m) ≡ first_from s k i (suc n)
    go true q on = rw suc-add (first-hit s k i (n + m) q ∙ sym (first-hit s k i n q))
    go false q on =
        rw suc-add
        (first-miss s k i (n + m) q
        ∙ on (omega (arith, h, first-miss s k i n q))
        ∙ sym (first-miss s k i n q))

-- it ends behind its places at the latest
pub first-most : (s : List ℕ) (k : Key) (i n : ℕ) → first_from s k i n ≤ i + n
first-most s k i zero = omega (arith, first-end s k i)
first-most s k i (suc n) = go (same_key (key_at s i) k) refl (first-most s k (suc i) n)
  where
    go : (b : Bool) → same_key (key_at s i) k ≡ b → first_from s k (suc i) n ≤ suc i + n → first_from s k i (suc n) ≤ i + suc n
    go true q on = omega (arith, first-hit s k i n q)
    go false q on = omega (arith, first-miss s k i n q)
