-- The clock and its seasons. Source: document 01, "Clock" and "Seasons".
use Rattle.calendar.specs.declared.date.DateError.{DateError}
use Rattle.calendar.specs.declared.time.TimeError.{TimeError}
use Rattle.std.specs.Prelude.{Bool, true, cond, ◌&&◌, ℕ, ◌+◌, eqb, leb, ltb, Err, Ok, Result}
use Rattle.calendar.specs.Sunday.{last_sunday}
use Rattle.calendar.specs.Time.{is_time, second_number, century_seconds, seconds_later, seconds_earlier}
use Rattle.calendar.specs.declared.date.Date.{Date}
use Rattle.calendar.specs.declared.date.DateError.TheVariants as date
use Rattle.calendar.specs.declared.time.DateTime.{DateTime}
use Rattle.calendar.specs.declared.time.TimeError.TheVariants as time
use Rattle.meter_clock.specs.declared.season.Season.{Season}
use Rattle.meter_clock.specs.declared.season.Season.TheVariants.{Winter, Summer}
use Rattle.meter_clock.specs.declared.season.SwitchDate.{SwitchDate}
use Rattle.meter_clock.specs.declared.season.SwitchDate.TheVariants.{Automatic, ByHand}
use Rattle.meter_clock.specs.declared.season.Time.{Time}

-- the day of the month that the calendar answered
abbrev pub day_of : Result Date DateError → ℕ
day_of (Ok d) = d.day
day_of (Err date.NotADate) = 0
day_of (Err date.OutOfRange) = 0

-- a date at a full hour
abbrev pub on_hour : Date → ℕ → DateTime
on_hour d h = record { date = d; hour = h; minute = 0; second = 0 }

-- the last Sunday of a year's month
abbrev pub sunday : ℕ → ℕ → Date
sunday y m = record { year = y; month = m; day = last_sunday y m }

-- "A date written by hand replaces the automatic one and stays"
abbrev pub chosen_date : SwitchDate → DateTime → DateTime
chosen_date Automatic automatic = automatic
chosen_date (ByHand t) automatic = t

-- when summer begins: "02:00:00 on the last Sunday of March"
abbrev pub summer_date : SwitchDate → ℕ → DateTime
summer_date c y = chosen_date c (on_hour (sunday y 3) 2)

-- when winter begins: "03:00:00 on the last Sunday of October"
abbrev pub winter_date : SwitchDate → ℕ → DateTime
winter_date c y = chosen_date c (on_hour (sunday y 10) 3)

-- "A date in the first hour of 2000 or the last of 2099 is a wrong argument"
unfoldable pub is_switchable : DateTime → Bool
is_switchable t = is_time t && leb 3600 (second_number t) && ltb (second_number t + 3600) century_seconds

abbrev pub is_choice : SwitchDate → Bool
is_choice Automatic = true
is_choice (ByHand t) = is_switchable t

-- the ranges of the clock and its seasons
unfoldable pub is_fitting : Time → Bool
is_fitting t = is_time t.clock && is_choice t.summer && is_choice t.winter

unfoldable pub same_date : Date → Date → Bool
same_date a b = eqb a.day b.day && eqb a.month b.month && eqb a.year b.year

-- "it acts when a second would reach it exactly"
unfoldable pub same_time : DateTime → DateTime → Bool
unfolding same_date
same_time a b =
    eqb a.second b.second && eqb a.minute b.minute && eqb a.hour b.hour && same_date a.date b.date

-- the time that the calendar answered, else t
abbrev pub time_or : Result DateTime TimeError → DateTime → DateTime
time_or (Ok u) t = u
time_or (Err time.NotATime) t = t
time_or (Err time.OutOfRange) t = t

-- the clock at u in a season
abbrev pub shows : Time → DateTime → Season → Time
shows t u s = record { clock = u; season = s; summer = t.summer; winter = t.winter }

-- the clock at u, or, if a season begins there, at the time that is shown then
unfoldable pub switched : Time → DateTime → DateTime → DateTime → Season → Time
unfolding same_time
switched t u begins shown s = cond (same_time u begins) (shows t shown s) (shows t u t.season)

-- "In summer season the second that would reach 03:00:00 on the last Sunday of October gives 02:00:00 and winter."
unfoldable pub into_winter : Time → DateTime → Time
unfolding switched
into_winter t u = switched t u (winter_date t.winter u.date.year) (time_or (seconds_earlier u 3600) u) Winter

-- "In winter season the one that would reach 02:00:00 on the last Sunday of March gives 03:00:00 and summer."
unfoldable pub into_summer : Time → DateTime → Time
unfolding switched
into_summer t u = switched t u (summer_date t.summer u.date.year) (time_or (seconds_later u 3600) u) Summer

unfoldable pub in_season : Season → Time → DateTime → Time
unfolding into_winter into_summer
in_season Summer t u = into_winter t u
in_season Winter t u = into_summer t u

-- a second that would reach u
unfoldable pub reached : Time → DateTime → Time
unfolding in_season
reached t u = in_season t.season t u

answered : Result DateTime TimeError → Time → Time
unfolding reached
answered (Ok u) t = reached t u
answered (Err time.NotATime) t = t
answered (Err time.OutOfRange) t = t

-- one second: "After 2099-12-31 23:59:59 the clock stands still."
unfoldable pub next_time : Time → Time
unfolding answered
next_time t = answered (seconds_later t.clock 1) t
