-- Days to hold the definitions against, computed. Source: any calendar of the years named.
use Rattle.std.specs.Prelude.{Err, Ok}
use mathlib.Core.Path.{◌≡◌, refl}
use mathlib.Core.Bool.{true, false}
use Prim.Native.Nat.{ℕ}
use Rattle.calendar.specs.Count.{starts, count_off}
use Rattle.calendar.specs.Date.{leap, month_lengths, days_in_month, length_of, is_date, day_number, date_at, date_of, date_on, days_later}
use Rattle.calendar.specs.Time.{is_time, second_number, time_of, time_at, seconds_later}
use Rattle.calendar.specs.Sunday.{weekday}
use Rattle.calendar.specs.declared.date.Date.{Date}
use Rattle.calendar.specs.declared.time.DateTime.{DateTime}
use Rattle.calendar.specs.declared.time.TimeError.TheVariants.{OutOfRange}

abbrev date : ℕ → ℕ → ℕ → Date
date y m d = record { year = y; month = m; day = d }

abbrev time : Date → ℕ → ℕ → ℕ → DateTime
time d h m s = record { date = d; hour = h; minute = m; second = s }

-- 2000 was a leap year, and 2001 was none
leap-day : is_date (date 0 2 29) ≡ true
unfolding is_date days_in_month month_lengths leap
leap-day = refl

no-leap-day : is_date (date 1 2 29) ≡ false
unfolding is_date days_in_month month_lengths leap
no-leap-day = refl

-- 2001 began 366 days after 2000-01-01, and 2004-03-01 came two days after 2004-02-28
new-year : day_number (date 1 1 1) ≡ 366
unfolding day_number starts length_of days_in_month month_lengths leap
new-year = refl

over-the-leap-day : days_later (date 4 2 28) 2 ≡ Ok (date 4 3 1)
unfolding days_later date_on date_of date_at count_off is_date day_number starts length_of days_in_month month_lengths leap
over-the-leap-day = refl

-- the last second of 2000 is followed by the first of 2001, and that of 2099 by none
first-of-2001 : seconds_later (time (date 0 12 31) 23 59 59) 1 ≡ Ok (time (date 1 1 1) 0 0 0)
unfolding seconds_later time_at time_of is_time second_number date_of date_at count_off is_date day_number starts length_of days_in_month month_lengths leap
first-of-2001 = refl

last-second : seconds_later (time (date 99 12 31) 23 59 59) 1 ≡ Err OutOfRange
unfolding seconds_later time_at is_time second_number is_date day_number starts length_of days_in_month month_lengths leap
last-second = refl

-- 2002-07-04 was a Thursday
thursday : weekday (day_number (date 2 7 4)) ≡ 4
unfolding day_number starts length_of days_in_month month_lengths leap
thursday = refl
