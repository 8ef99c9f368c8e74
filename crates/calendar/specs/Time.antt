-- Times of 2000 to 2099 as a count of seconds. Source: document 01, "Clock": second, minute and hour, one byte each, with the date.
use Rattle.calendar.specs.declared.time.TimeError.{TimeError}
use Rattle.std.specs.Prelude.{ℕ, ◌+◌, ◌*◌, ◌-◌, ◌/◌, ◌%◌, Bool, cond, ◌&&◌, ltb, leb, Err, Ok, Result}
use Rattle.calendar.specs.Date.{century_days, is_date, day_number, date_of}
use Rattle.calendar.specs.declared.time.DateTime.{DateTime}
use Rattle.calendar.specs.declared.time.TimeError.TheVariants.{NotATime, OutOfRange}

-- whether six bytes are a time
unfoldable pub is_time : DateTime → Bool
is_time t = is_date t.date && ltb t.hour 24 && ltb t.minute 60 && ltb t.second 60

-- seconds since 2000-01-01 00:00:00
unfoldable pub second_number : DateTime → ℕ
second_number t = ((day_number t.date * 24 + t.hour) * 60 + t.minute) * 60 + t.second

-- the seconds of the hundred years
abbrev pub century_seconds : ℕ
century_seconds = century_days * 86400

-- the time of a second number
unfoldable pub time_of : ℕ → DateTime
time_of n = record { date = date_of (n / 86400); hour = n % 86400 / 3600; minute = n % 3600 / 60; second = n % 60 }

-- the time of a second number, where the hundred years have it
unfoldable pub time_at : ℕ → Result DateTime TimeError
time_at n = cond (ltb n century_seconds) (Ok (time_of n)) (Err OutOfRange)

-- the time n seconds before second number m
unfoldable pub time_back : ℕ → ℕ → Result DateTime TimeError
time_back m n = cond (leb n m) (time_at (m - n)) (Err OutOfRange)

-- the time n seconds after t
unfoldable pub seconds_later : DateTime → ℕ → Result DateTime TimeError
seconds_later t n = cond (is_time t) (time_at (second_number t + n)) (Err NotATime)

-- the time n seconds before t
unfoldable pub seconds_earlier : DateTime → ℕ → Result DateTime TimeError
seconds_earlier t n = cond (is_time t) (time_back (second_number t) n) (Err NotATime)
