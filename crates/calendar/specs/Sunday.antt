-- The last Sunday of a month. Source: document 01, "Seasons": summer begins on the last Sunday of March and ends on that of October.
use Rattle.calendar.specs.declared.date.Date.{Date}
use Rattle.calendar.specs.declared.date.DateError.{DateError}
use Rattle.std.specs.Prelude.{ℕ, ◌+◌, ◌-◌, ◌%◌, cond, ltb, Err, Ok, Result}
use Rattle.calendar.specs.Date.{days_in_month, day_number}
use Rattle.calendar.specs.declared.date.DateError.TheVariants.{NotADate}

-- the weekday of a day number, Sunday 0 to Saturday 6: day number 0, 2000-01-01, was a Saturday
abbrev pub weekday : ℕ → ℕ
weekday n = (n + 6) % 7

-- the day of the month on which its last Sunday falls: the last day, less that day's weekday
unfoldable pub last_sunday : ℕ → ℕ → ℕ
last_sunday y m = days_in_month y m - weekday (day_number (record { year = y; month = m; day = days_in_month y m }))

-- the date of a month's last Sunday
unfoldable pub last_sunday_of : ℕ → ℕ → Result Date DateError
last_sunday_of y m = cond (ltb y 100) (Ok (record { year = y; month = m; day = last_sunday y m })) (Err NotADate)
