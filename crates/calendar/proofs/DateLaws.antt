-- What follows from the definitions of dates: day numbers and dates correspond one to one, and the days later and earlier are so many
-- day numbers on and back.
use Rattle.std.specs.Prelude.{Err, Ok, Result}
use Rattle.calendar.specs.declared.date.DateError.{DateError}
use Prim.Native.Nat.{ℕ, ◌+◌, ◌*◌, ◌-◌, ◌/◌, ◌%◌, ◌≤◌, ◌<◌}
use native.Mathlib.Omega.{arith}
use native.Mathlib.Numerals.{add-one}
use mathlib.Core.Path.{◌≡◌, refl, sym, ◌∙◌, ap}
use mathlib.Core.Bool.{Bool, true, false, cond, ◌&&◌, ◌||◌, beq, and-false}
use lib.Dec.{ltb, leb, eqb}
use lib.ListN.{get_or, get_or-eq_default}
use borrow.Author.Tests.{ltb-true, ltb-false, leb-true, leb-false, eqb-true, lt-ltb, le-ltb, le-leb, ne_eqb}
use Rattle.test_laws.proofs.Test.{both, every_below, below}
use Rattle.calendar.specs.Count.{Place, starts, count_off}
use Rattle.calendar.proofs.CountLaws.{Lies, starts-mono, ends-before, counted, counts-off}
use Rattle.calendar.specs.Date.{leap, month_lengths, days_in_month, length_of, days_before, century_days, is_date, month_number, day_number, date_at, date_of, date_on, date_back, days_later}
use Rattle.calendar.proofs.Numbered.{Numbered, Numbering, same, answered, later}
use Rattle.calendar.specs.declared.date.Date.{Date}
use Rattle.calendar.specs.declared.date.DateError.TheVariants.{NotADate, OutOfRange}

-- ---- Months

-- the hundred years' months end with its days
pub century : days_before 1200 ≡ century_days
unfolding starts length_of days_in_month month_lengths leap
century = refl

-- a year and a month of the calendar
pub record Month (y m : ℕ) : Type 0 where
  pub year-below : y < 100
  pub month-from : 1 ≤ m
  pub month-to : m ≤ 12

-- only these have days
pub month-exists : (y m : ℕ) → 0 < days_in_month y m → Month y m
unfolding days_in_month month_lengths
month-exists y m h = go (ltb y 100) refl (leb 1 m) refl (leb m 12) refl
  where
    go : (a : Bool) → ltb y 100 ≡ a → (b : Bool) → leb 1 m ≡ b → (c : Bool) → leb m 12 ≡ c → Month y m
    go true p true q true s = record { year-below = ltb-true _ _ p; month-from = leb-true _ _ q; month-to = leb-true _ _ s }
    go true p true q false s =
        let z : days_in_month y m ≡ 0 = rw p (get_or-eq_default (month_lengths (leap y)) 0 {n = m} (leb-false _ _ s)) in
        absurd (omega arith)
    go true p false q c s =
        let e : m ≡ 0 = omega (arith, leb-false 1 m q) in
        let z : days_in_month y m ≡ 0 = rw (p, e) in
        absurd (omega arith)
    go false p b q c s =
        let z : days_in_month y m ≡ 0 = rw p in
        absurd (omega arith)

-- the last arm of `days_in_month`
pub no-month : (y m : ℕ) → (Month y m → ⊥) → days_in_month y m ≡ 0
no-month y m h = go (ltb 0 (days_in_month y m)) refl
  where
    go : (b : Bool) → ltb 0 (days_in_month y m) ≡ b → days_in_month y m ≡ 0
    go true e = absurd (h (month-exists y m (ltb-true _ _ e)))
    go false e = omega (arith, ltb-false 0 (days_in_month y m) e)

-- a test of a month's number and its length that every month of a year passes, in a leap year and in another
module _ (f : ℕ → ℕ → Bool) where
  of_year : Bool → ℕ → Bool
  of_year b k = f (k + 1) (get_or (month_lengths b) (k + 1) 0)

  every-month : every_below (of_year true) 12 ≡ true → every_below (of_year false) 12 ≡ true → (y m : ℕ) → Month y m → f m (days_in_month y m) ≡ true
  unfolding days_in_month of_year
  every-month p q y m h =
      let e : m - 1 + 1 ≡ m = omega (arith, h.month-from) in
      let t : f (m - 1 + 1) (get_or (month_lengths (leap y)) (m - 1 + 1) 0) ≡ true = go (leap y) in
      rw (lt-ltb _ _ h.year-below) (rw e at t)
    where
      go : (b : Bool) → of_year b (m - 1) ≡ true
      go true = below (of_year true) 12 p (m - 1) (omega (arith, h.month-from, h.month-to))
      go false = below (of_year false) 12 q (m - 1) (omega (arith, h.month-from, h.month-to))

-- a month has 28 to 31 days
pub record MonthLength (n : ℕ) : Type 0 where
  pub at_least : 28 ≤ n
  pub at_most : n ≤ 31

lasts : ℕ → ℕ → Bool
lasts m n = leb 28 n && leb n 31

-- 28 to 31, wherever a day's bound is needed
pub month-length : (y m : ℕ) → Month y m → MonthLength (days_in_month y m)
unfolding month_lengths every_below of_year lasts
month-length y m h =
    let w = both _ _ (every-month lasts refl refl y m h) in
    record { at_least = leb-true _ _ w.0; at_most = leb-true _ _ w.1 }

-- but for February, 31 and 30 days take turns, from January and again from August
turn : ℕ → ℕ → Bool
turn m n = eqb m 2 || eqb n (30 + (m + m / 8) % 2)

-- the rule by which `days_in_month` finds 30 or 31 without a table
pub turns : (y m : ℕ) → Month y m → (m ≡ 2 → ⊥) → days_in_month y m ≡ 30 + (m + m / 8) % 2
unfolding month_lengths every_below of_year turn
turns y m h z = eqb-true _ _ (rw (ne_eqb m 2 z) at (every-month turn refl refl y m h))

-- of the hundred years every fourth is a leap year, and no other
pub leap-fourth : (y : ℕ) → y < 100 → leap y ≡ eqb (y % 4) 0
unfolding every_below leap
leap-fourth y h = same _ _ (below (λ k. beq (leap k) (eqb (k % 4) 0)) 100 refl y h)
  where
    same : (a b : Bool) → beq a b ≡ true → a ≡ b
    same true true e = refl
    same true false e = sym e
    same false true e = e
    same false false e = refl

-- the arm of `february`: every fourth of the hundred years
pub february : (y : ℕ) → y < 100 → days_in_month y 2 ≡ cond (eqb (y % 4) 0) 29 28
unfolding days_in_month month_lengths
february y h = rw (lt-ltb _ _ h, leap-fourth y h)

-- the length of a month by its number
pub length-of-month : (y m : ℕ) → 1 ≤ m → m ≤ 12 → length_of (12 * y + (m - 1)) ≡ days_in_month y m
unfolding length_of
length-of-month y m h k =
    let a : (12 * y + (m - 1)) / 12 ≡ y = omega arith in
    let b : (12 * y + (m - 1)) % 12 + 1 ≡ m = omega arith in
    rw (a, b)

-- the same of months counted on from January 2000
pub length-range : (k : ℕ) → k < 1200 → MonthLength (length_of k)
unfolding length_of
length-range k h = month-length (k / 12) (k % 12 + 1) (record { year-below = omega arith; month-from = omega arith; month-to = omega arith })

-- a month is carried
pub month-carried : (k r : ℕ) → length_of k ≤ r → days_before (k + 1) + (r - length_of k) ≡ days_before k + r
unfolding starts
month-carried k r h = rw (add-one k) (omega arith)

-- ---- Dates and day numbers

-- what a date's three numbers keep to
pub record Ranges (d : Date) : Type 0 where
  pub year-below : d.year < 100
  pub month-from : 1 ≤ d.month
  pub month-to : d.month ≤ 12
  pub day-from : 1 ≤ d.day
  pub day-to : d.day ≤ days_in_month d.year d.month

-- what is known of a date that was tested
pub ranges : (d : Date) → is_date d ≡ true → Ranges d
unfolding is_date
ranges d e =
    let w = both _ _ e in
    let x = both _ _ w.0 in
    let y = both _ _ x.0 in
    let z = both _ _ y.0 in
    record { year-below = ltb-true _ _ z.0; month-from = leb-true _ _ z.1; month-to = leb-true _ _ y.1; day-from = leb-true _ _ x.1; day-to = leb-true _ _ w.1 }

-- what has to be shown of one that is made
pub is-date : (d : Date) → Ranges d → is_date d ≡ true
unfolding is_date
is-date d r = simp (lt-ltb _ _ r.year-below, le-leb _ _ r.month-from, le-leb _ _ r.month-to, le-leb _ _ r.day-from, le-leb _ _ r.day-to)

-- a day of its month is a date, since a month that does not exist has no days
pub day-of-month : (d : Date) → 1 ≤ d.day → leb d.day (days_in_month d.year d.month) ≡ is_date d
unfolding is_date
day-of-month d h = go (leb d.day (days_in_month d.year d.month)) refl
  where
    go : (b : Bool) → leb d.day (days_in_month d.year d.month) ≡ b → leb d.day (days_in_month d.year d.month) ≡ is_date d
    go true e =
        let t = leb-true d.day (days_in_month d.year d.month) e in
        let m = month-exists d.year d.month (omega arith) in
        e ∙ sym (is-date d (record { year-below = m.year-below; month-from = m.month-from; month-to = m.month-to; day-from = h; day-to = t }))
    go false e = rw (e, and-false)

-- d is the date with day number n
abbrev pub DateIs : ℕ → Date → Type 0
DateIs = Numbered is_date day_number

-- a day of a month has the month's days before it
pub date-at : (n : ℕ) (p : Place) → Lies length_of 1200 n p → DateIs n (date_at p)
unfolding date_at day_number length_of
date-at n p l =
    let k : 12 * (p.piece / 12) + (p.piece % 12 + 1 - 1) ≡ p.piece = omega arith in
    let r : p.rest + 1 - 1 ≡ p.rest = omega arith in
    record {
      valid =
          is-date (date_at p) (record { year-below = omega (arith, l.piece-below); month-from = omega arith; month-to = omega arith; day-from = omega arith; day-to = omega (arith, l.rest_below) });
      number = rw (k, r) l.total;
    }

-- each day number below the century's days is that of its date
pub date-of : (n : ℕ) → n < century_days → DateIs n (date_of n)
unfolding date_of
date-of n h = date-at n (count_off length_of 1200 0 n) (counts-off length_of 1200 n (rw century h))

-- where a date lies among the months
pub date-lies : (d : Date) → is_date d ≡ true → Lies length_of 1200 (day_number d) (record { piece = month_number d; rest = d.day - 1 })
unfolding day_number
date-lies d e =
    let r = ranges d e in
    record {
      piece-below = omega (arith, r.year-below, r.month-to);
      rest_below = omega (arith, r.day-from, r.day-to, length-of-month d.year d.month r.month-from r.month-to);
      total = refl;
    }

-- a date is the date of its day number
pub date-of-number : (d : Date) → is_date d ≡ true → date_of (day_number d) ≡ d
unfolding date_of date_at
date-of-number d e =
    let r = ranges d e in
    let y : (12 * d.year + (d.month - 1)) / 12 ≡ d.year = omega (arith, r.month-from, r.month-to) in
    let m : (12 * d.year + (d.month - 1)) % 12 + 1 ≡ d.month = omega (arith, r.month-from, r.month-to) in
    let a : d.day - 1 + 1 ≡ d.day = omega (arith, r.day-from) in
    ap date_at (counted length_of 1200 (day_number d) _ (date-lies d e)) ∙ (λ i. record { year = y i; month = m i; day = a i })

-- a date's day number is below the century's days
pub number-below : (d : Date) → is_date d ≡ true → day_number d < century_days
unfolding day_number
number-below d e =
    let l = date-lies d e in
    omega (arith, l.rest_below, ends-before length_of (month_number d) 1200 l.piece-below, century)

-- dates are numbered by their days
dates : Numbering Date (Result Date DateError)
dates = record {
  is_valid = is_date;
  number_of = day_number;
  bound = century_days;
  nth = date_of;
  found = Ok;
  outside = Err OutOfRange;
  none = Err NotADate;
  nth-is = date-of;
  nth_number = date-of-number;
  number-below = number-below;
  found-one = λ d e p. cc;
  outside≢found = λ d p. let z : ◌≡◌ {A = ℕ} 0 1 = cc in omega arith;
  none≢found = λ d p. let z : ◌≡◌ {A = ℕ} 0 1 = cc in omega arith;
}

-- two dates with one day number are one date
pub same_number : (d e : Date) → is_date d ≡ true → is_date e ≡ true → day_number d ≡ day_number e → d ≡ e
unfolding dates
same_number = same dates

-- the first of a month has the month's days before it
pub first-of-month : (d : Date) → is_date d ≡ true → d.day ≤ 1 → days_before (month_number d) ≡ day_number d
unfolding day_number
first-of-month d e h = omega (arith, (ranges d e).day-from)

-- ---- Days later and earlier

-- the answer at a day number is the one date that has it
pub date-on : (n : ℕ) (e : Date) → DateIs n e → date_on n ≡ Ok e
unfolding dates date_on
date-on = answered dates

-- n days later the day number is n more
pub days-later : (d : Date) (n : ℕ) (e : Date) → days_later d n ≡ Ok e → DateIs (day_number d + n) e
unfolding dates days_later date_on
days-later = later dates

-- days that fit into a month are a date of it
pub date-found : (k r : ℕ) → k < 1200 → r < length_of k → date_on (days_before k + r) ≡ Ok (date_at (record { piece = k; rest = r }))
date-found k r hk hr = date-on _ _ (date-at _ (record { piece = k; rest = r }) (record { piece-below = hk; rest_below = hr; total = refl }))

-- no day is left after the last month
pub date-past : (k r : ℕ) → 1200 ≤ k → date_on (days_before k + r) ≡ Err OutOfRange
unfolding dates date_on
date-past k r h = rw (le-ltb (days_before k + r) century_days (omega (arith, century, starts-mono length_of 1200 k h)))

-- the day before a later day of a month
pub back-in-month : (d : Date) → is_date d ≡ true → 1 < d.day → date_back (day_number d) 1 ≡ Ok (record { year = d.year; month = d.month; day = d.day - 1 })
unfolding date_back day_number
back-in-month d e h =
    let r = ranges d e in
    let b : Date = record { year = d.year; month = d.month; day = d.day - 1 } in
    let v : Ranges b = record { year-below = r.year-below; month-from = r.month-from; month-to = r.month-to; day-from = omega arith; day-to = omega (arith, r.day-to) } in
    rw (le-leb 1 (day_number d) (omega arith)) (date-on _ b (record { valid = is-date b v; number = omega arith }))

-- the day before the first of a month is the last of the month before
pub back-over-month : (k : ℕ) → k < 1200 → (k ≡ 0 → ⊥) → date_back (days_before k) 1 ≡ Ok (date_at (record { piece = k - 1; rest = length_of (k - 1) - 1 }))
unfolding date_back
back-over-month k h z =
    let l = length-range (k - 1) (omega arith) in
    let e : k - 1 + 1 ≡ k = omega arith in
    let c = rw e at (month-carried (k - 1) (length_of (k - 1)) (omega arith)) in
    let s : days_before k - 1 ≡ days_before (k - 1) + (length_of (k - 1) - 1) = omega arith in
    rw (le-leb 1 (days_before k) (omega arith), s) (date-found (k - 1) (length_of (k - 1) - 1) (omega arith) (omega arith))

-- before the first month there is none
pub back-past-start : date_back (days_before 0) 1 ≡ Err OutOfRange
unfolding date_back starts
back-past-start = refl
