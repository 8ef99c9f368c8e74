-- Nights and runs to hold the definitions against, computed. Source: any calendar of the years named; document 02, CR 5: "(4 and 5, or 8 to 11)".
use Prim.Native.Nat.{ℕ}
use mathlib.Core.Path.{◌≡◌, refl}
use mathlib.Core.Bool.{true, false}
use mathlib.Core.List.{[], ◌∷◌}
use Rattle.calendar.specs.Count.{starts}
use Rattle.calendar.specs.Date.{leap, month_lengths, days_in_month, length_of, is_date, day_number}
use Rattle.calendar.specs.Sunday.{last_sunday, last_sunday_of}
use Rattle.calendar.specs.declared.date.Date.{Date}
use Rattle.slots.specs.Day.{is_minutes, slots_of}
use Rattle.season_nights.specs.Night.{is_day, night_of, in_hour}
use Rattle.season_nights.specs.Run.{spring_ahead, run_at, missing_run, no_run}
use Rattle.season_nights.specs.declared.night.Night.TheVariants.{Plain, Spring, Autumn}

abbrev date : ℕ → ℕ → ℕ → Date
date y m d = record { year = y; month = m; day = d }

-- in 2026 the clock goes forward on 29 March and back on 25 October
forward : night_of (date 26 3 29) ≡ Spring
unfolding night_of is_day last_sunday_of last_sunday day_number starts length_of days_in_month month_lengths leap
forward = refl

back : night_of (date 26 10 25) ≡ Autumn
unfolding night_of is_day last_sunday_of last_sunday day_number starts length_of days_in_month month_lengths leap
back = refl

sunday-before : night_of (date 26 3 22) ≡ Plain
unfolding night_of is_day last_sunday_of last_sunday day_number starts length_of days_in_month month_lengths leap
sunday-before = refl

-- the half hours from 01:30 to 03:00, and the quarters before and after the hour
half-hours : in_hour 30 3 ∷ in_hour 30 4 ∷ in_hour 30 5 ∷ in_hour 30 6 ∷ [] ≡ false ∷ true ∷ true ∷ false ∷ []
unfolding in_hour
half-hours = refl

quarters : in_hour 15 7 ∷ in_hour 15 8 ∷ in_hour 15 11 ∷ in_hour 15 12 ∷ [] ≡ false ∷ true ∷ true ∷ false ∷ []
unfolding in_hour
quarters = refl

-- of a log of 62 days from 2026-02-01 the night of 29 March is day 56, and one of 56 days ends before it
of-two-months : missing_run (date 26 2 1) 62 15 ≡ record { first = 5384; count = 4 }
unfolding missing_run run_at spring_ahead is_date last_sunday day_number starts length_of days_in_month month_lengths leap slots_of is_minutes
of-two-months = refl

ends-before : missing_run (date 26 2 1) 56 15 ≡ no_run
unfolding missing_run run_at spring_ahead is_date last_sunday day_number starts length_of days_in_month month_lengths leap slots_of is_minutes
ends-before = refl

-- from New Year's Eve 62 days end on 2 March
over-new-year : missing_run (date 26 12 31) 62 30 ≡ no_run
unfolding missing_run run_at spring_ahead is_date last_sunday day_number starts length_of days_in_month month_lengths leap slots_of is_minutes
over-new-year = refl
