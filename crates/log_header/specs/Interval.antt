-- The intervals and the days of a log. Source: document 01, "The reader and the log": "Every day has 48 or 96 slots"; document 02, CR 5: "That is wrong
-- on two days."
use Rattle.calendar.specs.declared.date.Date.{Date}
use Rattle.calendar.specs.declared.date.Date.{Date}
use Rattle.calendar.specs.declared.date.DateError.{DateError}
use Rattle.std.specs.Prelude.{ℕ, ◌+◌, ◌*◌, ◌/◌, ◌%◌, Bool, cond, not, ◌&&◌, ltb, eqb, Err, None, Ok, Option, Result, Some}
use Rattle.calendar.specs.Date.{days_later}
use Rattle.calendar.specs.declared.date.DateError.TheVariants as date
use Rattle.slots.specs.Day.{slots_of}
use Rattle.season_nights.specs.Night.{night_of, missing, doubled}
use Rattle.season_nights.specs.Run.{missing_run, no_run}
use Rattle.season_nights.specs.declared.night.Night.{Night}
use Rattle.season_nights.specs.declared.night.Night.TheVariants.{Plain}
use Rattle.season_nights.specs.declared.run.Run.{Run}
use Rattle.log_header.specs.declared.header.Header.{Header}

-- "1 follows the automatic seasons, 0 doesn't" (CR 5)
abbrev pub follows : Header → Bool
follows h = eqb h.seasons 1

-- the calendar's answer has a night where it is a date
abbrev pub night_in : Result Date DateError → Night
night_in (Ok d) = night_of d
night_in (Err date.NotADate) = Plain
night_in (Err date.OutOfRange) = Plain

-- the night of a day of the log, counted from 0: the last Sundays of its own year, where the seasons are followed
unfoldable pub night_on : Header → ℕ → Night
night_on h d = cond (follows h) (night_in (days_later h.start d)) Plain

-- "With 1, on the March day those slots (4 and 5, or 8 to 11) don't exist" (CR 5)
unfoldable pub exists : Header → ℕ → ℕ → Bool
exists h d s = not (missing (night_on h d) h.minutes s)

-- "The October day has that hour twice, under one key" (CR 5)
unfoldable pub comes_twice : Header → ℕ → ℕ → Bool
comes_twice h d s = doubled (night_on h d) h.minutes s

-- "cells in time order": whether the slot of the cell with this index exists, and whether it comes twice
unfoldable pub exists_at : Header → ℕ → Bool
exists_at h i = exists h (i / slots_of h.minutes) (i % slots_of h.minutes)

unfoldable pub comes_twice_at : Header → ℕ → Bool
comes_twice_at h i = comes_twice h (i / slots_of h.minutes) (i % slots_of h.minutes)

-- the cells whose slots do not exist, as one run (IntervalLaws, run-exists)
unfoldable pub missing_cells : Header → Run
missing_cells h = cond (follows h) (missing_run h.start h.days h.minutes) no_run

-- "cells in time order": the index of a day's slot, each counted from 0; any other is "not in the log", and so is "a slot that doesn't exist" (CR 5)
unfoldable pub interval_of : Header → ℕ → ℕ → Option ℕ
interval_of h d s =
    cond (ltb d h.days && ltb s (slots_of h.minutes) && exists h d s) (Some (d * slots_of h.minutes + s)) None

-- one value for an interval that is not in the log, else one by its cell's index
abbrev pub if_at : {A : Type 0} → Option ℕ → A → (ℕ → A) → A
if_at None other f = other
if_at (Some i) other f = f i

-- a day past the calendar is no day of a log
abbrev pub on_day : Result Date DateError → Option Date
on_day (Ok d) = Some d
on_day (Err date.NotADate) = None
on_day (Err date.OutOfRange) = None

-- the date of a day of the log
unfoldable pub day_date : Header → ℕ → Option Date
day_date h d = cond (ltb d h.days) (on_day (days_later h.start d)) None
