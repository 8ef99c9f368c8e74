-- Moments as minutes since the start of 2000, by which an interval is over or not. Source: document 01, "Clock": the meter's clock has date,
-- hour and minute; 002, section 4.13: a slice is stored when the next interval begins.
use Rattle.std.specs.Prelude.{ℕ, ◌+◌, ◌*◌, ◌-◌, ◌/◌, Bool, cond, ltb, None, Option, Some}
use Rattle.calendar.specs.Date.{is_date, day_number, century_days}
use Rattle.calendar.specs.Time.{is_time}
use Rattle.calendar.specs.declared.date.Date.{Date}
use Rattle.calendar.specs.declared.time.DateTime.{DateTime}

abbrev pub day_minutes : ℕ
day_minutes = 1440

-- the days before a date since 2000-01-01; none before what is no date
unfoldable pub days_to : Date → ℕ
days_to d = cond (is_date d) (day_number d) 0

-- the minutes since 2000-01-01 00:00 at a clock's time
unfoldable pub moment_of : DateTime → Option ℕ
moment_of t = cond (is_time t) (Some (days_to t.date * day_minutes + (t.hour * 60 + t.minute))) None

-- 2000-01-01 00:00 in the machine's own count, the seconds since 1970: thirty years with seven leap days
abbrev pub machine_start : ℕ
machine_start = (30 * 365 + 7) * 86400

abbrev pub century_minutes : ℕ
century_minutes = century_days * day_minutes

-- the machine's time in minutes since 2000: the first one before that, and the hundred years' last one after them
unfoldable pub machine_minute : ℕ → ℕ
machine_minute seconds =
    let m = (seconds - machine_start) / 60 in
    cond (ltb m century_minutes) m (century_minutes - 1)

-- whether two moments lie more than a day apart: no time zone is so far off
unfoldable pub far_apart : ℕ → ℕ → Bool
far_apart a b = ltb day_minutes (cond (ltb a b) (b - a) (a - b))
