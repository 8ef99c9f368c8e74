-- The slots of a log that do not exist, as one run of its cells. Source: document 02, CR 5: "on the March day those slots (4 and 5, or 8 to 11)
-- don't exist"; document 01, "The reader and the log": "cells in time order", "1 to 62 days", "Every day has 48 or 96 slots".
use Rattle.std.specs.Prelude.{ℕ, ◌+◌, ◌*◌, ◌-◌, ◌/◌, Bool, cond, ◌&&◌, leb, ltb, None, Option, Some}
use Rattle.calendar.specs.Date.{is_date, day_number}
use Rattle.calendar.specs.Sunday.{last_sunday}
use Rattle.calendar.specs.declared.date.Date.{Date}
use Rattle.slots.specs.Day.{slots_of}
use Rattle.season_nights.specs.declared.run.Run.{Run}

-- the day number of a year's "March day", the last Sunday
abbrev pub spring_day : ℕ → ℕ
spring_day y = day_number (record { year = y; month = 3; day = last_sunday y 3 })

-- how many days after a date the March day of its own year comes, where it has not passed. That one is enough: 62 days from a date after
-- it end before the next year's (RunLaws, run-is-missing)
unfoldable pub spring_ahead : Date → Option ℕ
spring_ahead d = cond (is_date d && leb (day_number d) (spring_day d.year)) (Some (spring_day d.year - day_number d)) None

-- an hour's slots: 2 or 4, and none where minutes are no interval
abbrev pub hour_of : ℕ → ℕ
hour_of minutes = slots_of minutes / 24

abbrev pub no_run : Run
no_run = record { first = 0; count = 0 }

-- the cells of the third hour, which begins at 02:00, of the log's day with that number from 0, if the log has it
unfoldable pub run_at : Option ℕ → ℕ → ℕ → Run
run_at (Some day) days minutes =
    cond (ltb day days)
    (record { first = day * slots_of minutes + 2 * hour_of minutes; count = hour_of minutes })
    no_run
run_at None days minutes = no_run

-- the cells of a log that do not exist, where it has so many days from a start
unfoldable pub missing_run : Date → ℕ → ℕ → Run
missing_run start days minutes = run_at (spring_ahead start) days minutes

-- whether a cell is one of a run's
unfoldable pub in_run : Run → ℕ → Bool
in_run r cell = leb r.first cell && ltb cell (r.first + r.count)
