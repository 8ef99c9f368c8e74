-- The nights on which the clock is moved. Source: document 02, CR 5: "Where seasons are followed, the March day has no time between 02:00 and
-- 03:00 .. The October day has that hour twice"; document 01, "Seasons": the days are the last Sundays of March and of October.
use Rattle.calendar.specs.declared.date.DateError.{DateError}
use Rattle.std.specs.Prelude.{ℕ, ◌*◌, Bool, true, false, cond, ◌&&◌, eqb, leb, ltb, Err, Ok, Result}
use Rattle.calendar.specs.Sunday.{last_sunday_of}
use Rattle.calendar.specs.declared.date.Date.{Date}
use Rattle.season_nights.specs.declared.night.Night.{Night}
use Rattle.season_nights.specs.declared.night.Night.TheVariants.{Plain, Spring, Autumn}

-- whether the calendar's answer for a date's own year is that date: its month and its day
unfoldable pub is_day : Result Date DateError → Date → Bool
is_day (Ok a) d = eqb a.month d.month && eqb a.day d.day
is_day (Err e) d = false

-- "the March day", "the October day": the last Sundays of the date's own year; what is no date is neither
unfoldable pub night_of : Date → Night
night_of d = cond (is_day (last_sunday_of d.year 3) d) Spring (cond (is_day (last_sunday_of d.year 10) d) Autumn Plain)

-- "between 02:00 and 03:00": whether a slot, of whatever minutes, begins 120 minutes into the day or later, and before 180: 03:00 itself is out.
-- "those slots (4 and 5, or 8 to 11)" do (NightLaws, hour-slots)
unfoldable pub in_hour : ℕ → ℕ → Bool
in_hour minutes slot = leb 120 (slot * minutes) && ltb (slot * minutes) 180

abbrev pub is_spring : Night → Bool
is_spring Plain = false
is_spring Spring = true
is_spring Autumn = false

abbrev pub is_autumn : Night → Bool
is_autumn Plain = false
is_autumn Spring = false
is_autumn Autumn = true

-- "on the March day those slots .. don't exist"
unfoldable pub missing : Night → ℕ → ℕ → Bool
missing night minutes slot = is_spring night && in_hour minutes slot

-- "The October day has that hour twice"
unfoldable pub doubled : Night → ℕ → ℕ → Bool
doubled night minutes slot = is_autumn night && in_hour minutes slot
