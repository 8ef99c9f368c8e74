-- The last Sunday is a Sunday, and the last of its month; and how it goes by the year.
use Prim.Native.Nat.{ℕ, ◌+◌, ◌*◌, ◌-◌, ◌/◌, ◌%◌, ◌≤◌, ◌<◌}
use native.Mathlib.Omega.{arith}
use mathlib.Core.Path.{◌≡◌, sym, ◌∙◌}
use mathlib.Core.Bool.{Bool, true, ◌||◌}
use lib.Dec.{T, ltb, eqb}
use borrow.Author.Tests.{eqb-true, le-ltb}
use Rattle.test_laws.proofs.Test.{passed}
use Rattle.calendar.specs.Count.{starts}
use Rattle.calendar.proofs.CountLaws.{every_piece, at_piece}
use Rattle.calendar.specs.Date.{leap, month_lengths, days_in_month, length_of, days_before, day_number, is_date}
use Rattle.calendar.proofs.DateLaws.{Month, month-exists, month-length, turns, is-date}
use Rattle.calendar.specs.Sunday.{weekday, last_sunday}

-- day s is the last Sunday of a month
pub record LastSunday (y m s : ℕ) : Type 0 where
  pub valid : is_date (record { year = y; month = m; day = s }) ≡ true
  pub sunday : weekday (day_number (record { year = y; month = m; day = s })) ≡ 0
  pub in_month : s ≤ days_in_month y m
  pub last : days_in_month y m < s + 7

-- the computed day is a Sunday of the month and the last, for every claim on the seasons
pub last-sunday : (y m : ℕ) → Month y m → LastSunday y m (last_sunday y m)
unfolding last_sunday day_number
last-sunday y m h =
    let l = month-length y m h in
    record {
      valid = is-date _ (record { year-below = h.year-below; month-from = h.month-from; month-to = h.month-to; day-from = omega arith; day-to = omega arith });
      sunday = omega arith;
      in_month = omega arith;
      last = omega arith;
    }

-- ---- By the year

-- whether month number k, which begins at s, begins as many days after the same month of 2000 as the years between have: 365 each, and the
-- leap days. Of January and February, which a leap day follows, nothing is asked
regular : ℕ → ℕ → Bool
regular k s = ltb (k % 12) 2 || eqb s (days_before (k % 12) + (365 * (k / 12) + k / 12 / 4))

-- so they all do: one test, computed over the hundred years
all-regular : T (every_piece length_of regular 1200 0 0)
unfolding every_piece regular starts length_of days_in_month month_lengths leap
all-regular = tt

-- a day after February, some years on
pub years-on : (y m d : ℕ) → y < 100 → 2 < m → m ≤ 12
    → day_number (record { year = y; month = m; day = d }) ≡ day_number (record { year = 0; month = m; day = d }) + (365 * y + y / 4)
unfolding day_number regular starts
years-on y m d hy hm ht =
    let k : ℕ = 12 * y + (m - 1) in
    let t : regular k (days_before k) ≡ true = at_piece length_of regular 1200 0 (passed _ all-regular) k (omega arith) (omega arith) in
    let i : k % 12 ≡ 12 * 0 + (m - 1) = omega arith in
    let j : k / 12 ≡ y = omega arith in
    let e : days_before k ≡ days_before (12 * 0 + (m - 1)) + (365 * y + y / 4) = eqb-true _ _ (rw (i, j, le-ltb (12 * 0 + (m - 1)) 2 (omega arith)) at t) in
    omega (arith, e)

-- so the last Sunday of a month after February that has 31 days goes by its last day in 2000
pub by-year : (y m : ℕ) → y < 100 → 2 < m → days_in_month 0 m ≡ 31
    → last_sunday y m ≡ 31 - weekday (day_number (record { year = 0; month = m; day = 31 }) + (365 * y + y / 4))
unfolding last_sunday
by-year y m hy hm e =
    let a : Month 0 m = month-exists 0 m (omega arith) in
    let b : Month y m = record { year-below = hy; month-from = a.month-from; month-to = a.month-to } in
    let l : days_in_month y m ≡ 31 = turns y m b (λ p. omega arith) ∙ sym (turns 0 m a (λ p. omega arith)) ∙ e in
    rw (l, years-on y m 31 hy hm a.month-to)
