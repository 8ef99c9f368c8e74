-- What follows from the definitions of specs/Night.antt: which dates have the night of March, how far two of them lie apart, and which slots begin
-- in the hour.
use Rattle.std.specs.Prelude.{Err, Ok}
use Prim.Native.Nat.{ℕ, ◌+◌, ◌*◌, ◌≤◌, ◌<◌}
use native.Mathlib.Omega.{arith}
use mathlib.Core.Path.{◌≡◌, refl, sym, ◌∙◌}
use mathlib.Core.Bool.{Bool, true, false, cond, ◌&&◌, false≢true}
use lib.Dec.{ltb, leb, eqb}
use borrow.Author.Tests.{ltb-true, leb-true, eqb-true, lt-ltb, le-leb, eq-eqb}
use Rattle.test_laws.proofs.Test.{both}
use Rattle.calendar.specs.Date.{length_of, is_date, month_number, day_number}
use Rattle.calendar.specs.Sunday.{last_sunday, last_sunday_of}
use Rattle.calendar.proofs.CountLaws.{ends-before}
use Rattle.calendar.proofs.DateLaws.{Month, month-length, length-range, ranges, date-lies}
use Rattle.calendar.proofs.SundayLaws.{last-sunday}
use Rattle.calendar.specs.declared.date.Date.{Date}
use Rattle.calendar.specs.declared.date.DateError.TheVariants.{NotADate}
use Rattle.slots.specs.Day.{is_minutes, slots_of}
use Rattle.season_nights.specs.Night.{is_day, night_of, in_hour, is_spring}
use Rattle.season_nights.specs.Run.{hour_of}
use Rattle.season_nights.specs.declared.night.Night.TheVariants.{Plain, Spring, Autumn}

-- ---- Tests

-- two tests that each pass where the other does are one
alike : (a b : Bool) → (a ≡ true → b ≡ true) → (b ≡ true → a ≡ true) → a ≡ b
alike true b f g = sym (f refl)
alike false true f g = g refl
alike false false f g = refl

-- a bound in minutes is one in slots
pub leb-alike : (a b c d : ℕ) → (a ≤ b → c ≤ d) → (c ≤ d → a ≤ b) → leb a b ≡ leb c d
leb-alike a b c d f g = alike (leb a b) (leb c d) (λ p. le-leb c d (f (leb-true a b p))) (λ p. le-leb a b (g (leb-true c d p)))

-- the same of a strict bound
pub ltb-alike : (a b c d : ℕ) → (a < b → c < d) → (c < d → a < b) → ltb a b ≡ ltb c d
ltb-alike a b c d f g = alike (ltb a b) (ltb c d) (λ p. lt-ltb c d (f (ltb-true a b p))) (λ p. lt-ltb a b (g (ltb-true c d p)))

-- ---- Last Sundays

-- the last Sunday of a year's month
abbrev pub sunday : ℕ → ℕ → Date
sunday y m = record { year = y; month = m; day = last_sunday y m }

-- d is the last Sunday of month m of its own year
pub record IsLast (m : ℕ) (d : Date) : Type 0 where
  pub valid : is_date d ≡ true
  pub month : d.month ≡ m
  pub day : d.day ≡ last_sunday d.year m

module _ (m : ℕ) (from : 3 ≤ m) (to : m ≤ 12) where
  of-year : (y : ℕ) → y < 100 → Month y m
  of-year y h = record { year-below = h; month-from = omega arith; month-to = to }

  -- the calendar has a last Sunday for every year of its own
  pub sunday-last : (y : ℕ) → y < 100 → IsLast m (sunday y m)
  sunday-last y h = record { valid = (last-sunday y m (of-year y h)).valid; month = refl; day = refl }

  -- it does not come in the month's first week
  pub late : (d : Date) → IsLast m d → 8 ≤ d.day
  late d s =
      let o = of-year d.year (ranges d s.valid).year-below in
      omega (arith, s.day, (month-length d.year m o).at_least, (last-sunday d.year m o).last)

  -- from the test of a day to what the calendar says of it
  pub told : (d : Date) → is_day (last_sunday_of d.year m) d ≡ true → IsLast m d
  unfolding last_sunday_of is_day
  told d e = go (ltb d.year 100) refl e
    where
      go : (b : Bool) → ltb d.year 100 ≡ b → is_day (cond b (Ok (sunday d.year m)) (Err NotADate)) d ≡ true → IsLast m d
      go true p q =
          let w = both _ _ q in
          let b : m ≡ d.month = eqb-true _ _ w.0 in
          let a : last_sunday d.year m ≡ d.day = eqb-true _ _ w.1 in
          let same : sunday d.year m ≡ d = (λ i. record { year = d.year; month = b i; day = a i }) in
          rw (sym same) (sunday-last d.year (ltb-true _ _ p))
      go false p q = absurd (false≢true q)

  -- and back
  pub tells : (d : Date) → IsLast m d → is_day (last_sunday_of d.year m) d ≡ true
  unfolding last_sunday_of is_day
  tells d s =
      rw (lt-ltb _ _ (ranges d s.valid).year-below)
      (simp (eq-eqb _ _ (sym s.month), eq-eqb _ _ (sym s.day)))

-- a date of an earlier year comes earlier
pub years-ordered : (a b : Date) → is_date a ≡ true → is_date b ≡ true → a.year < b.year → day_number a < day_number b
unfolding day_number
years-ordered a b p q h =
    let r = ranges a p in
    let e = ends-before length_of (month_number a) (month_number b) (omega (arith, r.month-to, r.month-from)) in
    omega (arith, (date-lies a p).rest_below, e)

-- from any date, 62 days end before a date of the next year that is past the first week of March
pub years-apart : (a b : Date) → is_date a ≡ true → is_date b ≡ true → a.year < b.year → 3 ≤ b.month → 8 ≤ b.day → day_number a + 62 ≤ day_number b
unfolding day_number
years-apart a b p q h m w =
    let r = ranges a p in
    let s = ranges b q in
    let k : ℕ = 12 * b.year in
    let before = ends-before length_of (month_number a) k (omega (arith, r.month-to, r.month-from)) in
    let january = ends-before length_of k (k + 1) (omega arith) in
    let february = ends-before length_of (k + 1) (month_number b) (omega arith) in
    let long = length-range k (omega (arith, s.year-below)) in
    let short = length-range (k + 1) (omega (arith, s.year-below)) in
    omega (arith, (date-lies a p).rest_below, before, january, february, long.at_least, short.at_least)

-- ---- The night of March

-- a date has it exactly where it is that month's last Sunday
spring-tested : (d : Date) → is_spring (night_of d) ≡ is_day (last_sunday_of d.year 3) d
unfolding night_of
spring-tested d = go (is_day (last_sunday_of d.year 3) d) (is_day (last_sunday_of d.year 10) d)
  where
    go : (a b : Bool) → is_spring (cond a Spring (cond b Autumn Plain)) ≡ a
    go true b = refl
    go false true = refl
    go false false = refl

-- what is known of a day that has the night of March
pub spring-told : (d : Date) → is_spring (night_of d) ≡ true → IsLast 3 d
spring-told d e = told 3 (omega arith) (omega arith) d (sym (spring-tested d) ∙ e)

-- what has to be shown for it
pub spring-is : (d : Date) → IsLast 3 d → is_spring (night_of d) ≡ true
spring-is d s = spring-tested d ∙ tells 3 (omega arith) (omega arith) d s

-- ---- The hour

-- a day has 24 hours
pub whole-hours : (m : ℕ) → slots_of m ≡ 24 * hour_of m
unfolding slots_of is_minutes
whole-hours m = go (eqb m 15) refl (eqb m 30) refl
  where
    go : (a : Bool) → eqb m 15 ≡ a → (b : Bool) → eqb m 30 ≡ b → slots_of m ≡ 24 * hour_of m
    go true e b f = rw (eqb-true m 15 e)
    go false e true f = rw (eqb-true m 30 f)
    go false e false f = rw (e, f)

-- of 30 minutes slots 4 and 5 begin in it, of 15 minutes slots 8 to 11
pub hour-slots : (m s : ℕ) → is_minutes m ≡ true → in_hour m s ≡ (leb (2 * hour_of m) s && ltb s (3 * hour_of m))
unfolding in_hour slots_of is_minutes
hour-slots m s t = go (eqb m 15) refl (eqb m 30) refl
  where
    go : (a : Bool) → eqb m 15 ≡ a → (b : Bool) → eqb m 30 ≡ b → in_hour m s ≡ (leb (2 * hour_of m) s && ltb s (3 * hour_of m))
    go true e b f =
        rw (eqb-true m 15 e, leb-alike 120 (s * 15) 8 s (λ h. omega arith) (λ h. omega arith), ltb-alike (s * 15) 180 s 12 (λ h. omega arith) (λ h. omega arith))
    go false e true f =
        rw (eqb-true m 30 f, leb-alike 120 (s * 30) 4 s (λ h. omega arith) (λ h. omega arith), ltb-alike (s * 30) 180 s 6 (λ h. omega arith) (λ h. omega arith))
    go false e false f = absurd (false≢true (rw (e, f) at t))
