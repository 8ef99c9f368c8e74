-- The clock and its seasons, 21 bytes. Source: document 01, "Clock" and "Seasons"; a date is the six bytes that the wire has for it, the
-- bytes of the season and of a date's choice are this project's own.
use Rattle.std.specs.Prelude.{cond, List, ◌∷◌, ◌++◌, ℕ, eqb, drop, None, Option, Some}
use Rattle.byte_numbers.specs.Place.{byte_at}
use Rattle.calendar.specs.declared.time.DateTime.{DateTime}
use Rattle.wire_values.specs.Clock.{date_time_of, date_time_bytes}
use Rattle.meter_clock.specs.declared.season.Season.{Season}
use Rattle.meter_clock.specs.declared.season.Season.TheVariants.{Winter, Summer}
use Rattle.meter_clock.specs.declared.season.SwitchDate.{SwitchDate}
use Rattle.meter_clock.specs.declared.season.SwitchDate.TheVariants.{Automatic, ByHand}
use Rattle.meter_clock.specs.declared.season.Time.{Time}

abbrev pub season_byte : Season → ℕ
season_byte Winter = 0
season_byte Summer = 1

unfoldable pub season_of : ℕ → Option Season
season_of n = cond (eqb n 0) (Some Winter) (cond (eqb n 1) (Some Summer) None)

abbrev pub choice_byte : SwitchDate → ℕ
choice_byte Automatic = 0
choice_byte (ByHand t) = 1

-- the date that was written, else zeros
abbrev pub date_or_zeros : SwitchDate → DateTime
date_or_zeros Automatic = record { date = record { year = 0; month = 0; day = 0 }; hour = 0; minute = 0; second = 0 }
date_or_zeros (ByHand t) = t

-- seven bytes: the choice and its date
unfoldable pub switch_bytes : SwitchDate → List ℕ
switch_bytes c = choice_byte c ∷ date_time_bytes (date_or_zeros c)

-- an automatic date's six bytes are not looked at
unfoldable pub switch_of : List ℕ → Option SwitchDate
switch_of bs =
    cond (eqb (byte_at bs 0) 0) (Some Automatic)
    (cond (eqb (byte_at bs 0) 1) (Some (ByHand (date_time_of (drop 1 bs)))) None)

-- the clock, the season, when summer begins, and when winter
unfoldable pub time_bytes : Time → List ℕ
time_bytes t = date_time_bytes t.clock ++ (season_byte t.season ∷ switch_bytes t.summer ++ switch_bytes t.winter)

-- the parts that may be unreadable: all of them, or no time is read
unfoldable pub together : DateTime → Option Season → Option SwitchDate → Option SwitchDate → Option Time
together clock None summer winter = None
together clock (Some s) None winter = None
together clock (Some s) (Some summer) None = None
together clock (Some s) (Some summer) (Some winter) =
    Some (record { clock = clock; season = s; summer = summer; winter = winter })

unfoldable pub time_of : List ℕ → Option Time
time_of bs = together (date_time_of bs) (season_of (byte_at bs 6)) (switch_of (drop 7 bs)) (switch_of (drop 14 bs))
