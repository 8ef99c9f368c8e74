-- Dates of 2000 to 2099 as a count of days. Source: the Gregorian calendar; document 01, "Clock": day, month and year - 2000, one byte
-- each. A year is counted from 2000, a month and a day from 1; month number k counts the months from January 2000, which is 0.
use Rattle.calendar.specs.declared.date.DateError.{DateError}
use Rattle.std.specs.Prelude.{ℕ, ◌+◌, ◌*◌, ◌-◌, ◌/◌, ◌%◌, Bool, cond, not, ◌&&◌, ◌||◌, List, [], ◌∷◌, ltb, leb, eqb, get_or, Err, None, Ok, Option, Result, Some}
use Rattle.calendar.specs.Count.{Place, starts, count_off}
use Rattle.calendar.specs.declared.date.Date.{Date}
use Rattle.calendar.specs.declared.date.DateError.TheVariants.{NotADate, OutOfRange}

-- whether d divides n
abbrev pub divides : ℕ → ℕ → Bool
divides d n = eqb (n % d) 0

-- the Gregorian rule for the year 2000 + y: 4 divides it and 100 does not, or 400 does
unfoldable pub leap : ℕ → Bool
leap y = (divides 4 (2000 + y) && not (divides 100 (2000 + y))) || divides 400 (2000 + y)

-- the lengths of a year's months, January to December; a month 0 has no days
unfoldable pub month_lengths : Bool → List ℕ
month_lengths leap_year = 0 ∷ 31 ∷ cond leap_year 29 28 ∷ 31 ∷ 30 ∷ 31 ∷ 30 ∷ 31 ∷ 31 ∷ 30 ∷ 31 ∷ 30 ∷ 31 ∷ []

-- how many days a month has: none where the year or the month is not the calendar's
unfoldable pub days_in_month : ℕ → ℕ → ℕ
days_in_month y m = cond (ltb y 100) (get_or (month_lengths (leap y)) m 0) 0

-- the length of month number k
unfoldable pub length_of : ℕ → ℕ
length_of k = days_in_month (k / 12) (k % 12 + 1)

-- the days before month number k: the lengths of all months before it
abbrev pub days_before : ℕ → ℕ
days_before = starts length_of

-- the days of the hundred years: days_before 1200 (DateLaws, century)
abbrev pub century_days : ℕ
century_days = 36525

-- whether three bytes are a date
unfoldable pub is_date : Date → Bool
is_date d =
    ltb d.year 100
    && leb 1 d.month && leb d.month 12
    && leb 1 d.day && leb d.day (days_in_month d.year d.month)

-- the number of a date's month
abbrev pub month_number : Date → ℕ
month_number d = 12 * d.year + (d.month - 1)

-- days since 2000-01-01
unfoldable pub day_number : Date → ℕ
day_number d = days_before (month_number d) + (d.day - 1)

-- the day number of three bytes that are a date
unfoldable pub day_of : Date → Option ℕ
day_of d = cond (is_date d) (Some (day_number d)) None

-- the date in month number p .piece that is p.rest days after the first
unfoldable pub date_at : Place → Date
date_at p = record { year = p.piece / 12; month = p.piece % 12 + 1; day = p.rest + 1 }

-- the date of a day number: whole months, 1,200 at most, are counted off, and what is left is the day
unfoldable pub date_of : ℕ → Date
date_of n = date_at (count_off length_of 1200 0 n)

-- the date of a day number, where the hundred years have it
unfoldable pub date_on : ℕ → Result Date DateError
date_on n = cond (ltb n century_days) (Ok (date_of n)) (Err OutOfRange)

-- the date n days before day number m
unfoldable pub date_back : ℕ → ℕ → Result Date DateError
date_back m n = cond (leb n m) (date_on (m - n)) (Err OutOfRange)

-- the date n days after d
unfoldable pub days_later : Date → ℕ → Result Date DateError
days_later d n = cond (is_date d) (date_on (day_number d + n)) (Err NotADate)

-- the date n days before d
unfoldable pub days_earlier : Date → ℕ → Result Date DateError
days_earlier d n = cond (is_date d) (date_back (day_number d) n) (Err NotADate)
