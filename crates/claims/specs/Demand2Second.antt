-- Demand 2, the second. Document 01, "Clock": "One call is one second", with "Seasons" and "Protection". `pass_second` answers by `second_of`
-- (meter_record/specs/Record.antt). What its clock shows is said here by a count of seconds, and the Sundays by a count of days, that the meter's calendar does not
-- use, so that it and these claims cannot be wrong together. Proofs: `demand-2-second`, proofs/Claims.antt.
use Rattle.std.specs.Prelude.{◌≡◌, Bool, true, false, cond, not, ◌&&◌, List, [], ◌∷◌, ℕ, zero, suc, ◌+◌, ◌*◌, ◌-◌, ◌/◌, ◌%◌, ◌≤◌, ◌<◌, eqb, ltb, get_or, Err, Ok, Result}
use Rattle.calendar.specs.Time.{is_time}
use Rattle.calendar.specs.declared.date.Date.{Date}
use Rattle.calendar.specs.declared.time.DateTime.{DateTime}
use Rattle.parameters.specs.declared.code.Function.{Function}
use Rattle.parameters.specs.declared.code.Function.TheVariants as function
use Rattle.meter_clock.specs.Protection.{shut, opened}
use Rattle.meter_clock.specs.Season.{on_hour, shows}
use Rattle.meter_clock.specs.declared.protection.Level.{Level}
use Rattle.meter_clock.specs.declared.season.Season.{Season}
use Rattle.meter_clock.specs.declared.season.Season.TheVariants.{Winter, Summer}
use Rattle.meter_clock.specs.declared.season.SwitchDate.{SwitchDate}
use Rattle.meter_clock.specs.declared.season.SwitchDate.TheVariants.{Automatic, ByHand}
use Rattle.meter_clock.specs.declared.season.Time.{Time}
use Rattle.meter_record.specs.Ranges.{is_within}
use Rattle.meter_record.specs.Record.{second_of}
use Rattle.meter_record.specs.With.{with_protection, with_time}
use Rattle.meter_record.specs.declared.record.Record.{Record}
use Rattle.meter_record.specs.declared.record.RecordError.{RecordError}
use Rattle.meter_command.specs.Command.{command_of}
use Rattle.meter.specs.Reply.{is_sound, answer_of}
use Rattle.claims.specs.Demand1.{answer_number}

-- ---- the calendar, counted

-- the days of a year before each month, where it is no leap year
abbrev pub before_months : List ℕ
before_months = 0 ∷ 31 ∷ 59 ∷ 90 ∷ 120 ∷ 151 ∷ 181 ∷ 212 ∷ 243 ∷ 273 ∷ 304 ∷ 334 ∷ []

-- the days from 2000-01-01 to a month's first, 2000 to 2099: 365 a year, a leap day for each fourth year before, from 2000 on, and in such a year one from March on
unfoldable pub days_to_month : ℕ → ℕ → ℕ
days_to_month year month = 365 * year + (year + 3) / 4 + get_or before_months (month - 1) 0 + cond (eqb (year % 4) 0 && ltb 2 month) 1 0

unfoldable pub days_to : Date → ℕ
days_to d = days_to_month d.year d.month + (d.day - 1)

-- the seconds since then
unfoldable pub seconds_to : DateTime → ℕ
seconds_to t = 86400 * days_to t.date + 3600 * t.hour + 60 * t.minute + t.second

-- u is the second after t
pub record Follows (t u : DateTime) : Type 0 where
  pub time : is_time u ≡ true
  pub one_more : seconds_to u ≡ seconds_to t + 1

-- v is an hour after u
pub record HourOn (u v : DateTime) : Type 0 where
  pub early : is_time u ≡ true
  pub late : is_time v ≡ true
  pub apart : seconds_to v ≡ seconds_to u + 3600

-- 2099-12-31 23:59:59
abbrev pub last_second : DateTime
last_second = record { date = record { year = 99; month = 12; day = 31 }; hour = 23; minute = 59; second = 59 }

-- ---- the seasons' moments

-- a full hour on the last Sunday of a month of 31 days: 2 January 2000 was a Sunday, and the last of a month is among its last seven days
pub record SundayHour (month hour : ℕ) (u : DateTime) : Type 0 where
  pub in_month : u.date.month ≡ month
  pub sunday : days_to u.date % 7 ≡ 1
  pub last : 25 ≤ u.date.day
  pub full_hour : u ≡ on_hour u.date hour

-- "A date written by hand replaces the automatic one and stays; it acts when a second would reach it exactly"
abbrev pub Begins : SwitchDate → ℕ → ℕ → DateTime → Type 0
Begins Automatic month hour u = SundayHour month hour u
Begins (ByHand t) month hour u = u ≡ t

-- "03:00:00 on the last Sunday of October", "02:00:00 on the last Sunday of March", "and only in the other season": a season ends at u
abbrev pub EndsAt : Season → Time → DateTime → Type 0
EndsAt Summer t u = Begins t.winter 10 3 u
EndsAt Winter t u = Begins t.summer 3 2 u

-- ---- seconds and frames in a row

-- the record after one of the bench's calls: a refused one leaves it
abbrev pub record_after : Result Record RecordError → Record → Record
record_after (Ok x) r = x
record_after (Err refusal) r = r

-- so many seconds
unfoldable pub passing : ℕ → Record → Record
passing zero r = r
passing (suc n) r = passing n (record_after (second_of r) r)

-- what happens to a meter: a second passes, or a frame comes, with the output that is lent for its reply
pub data Event : Type 0 where
  second : Event
  frame : List ℕ → List ℕ → Event

-- the record after a list of these, each on record and store as the one before left them
unfoldable pub after : Record → List ℕ → List Event → Record
after r s [] = r
after r s (second ∷ es) = after (record_after (second_of r) r) s es
after r s (frame f out ∷ es) = let o = answer_of r s f out in after o.answer.after o.store es

unfoldable pub seconds_in : List Event → ℕ
seconds_in [] = 0
seconds_in (second ∷ es) = suc (seconds_in es)
seconds_in (frame f out ∷ es) = seconds_in es

-- whether no frame with one of these functions is accepted, where it comes
unfoldable pub none_of : (Function → Bool) → Record → List ℕ → List Event → Bool
none_of these r s [] = true
none_of these r s (second ∷ es) = none_of these (record_after (second_of r) r) s es
none_of these r s (frame f out ∷ es) =
    let o = answer_of r s f out in
    not (these (command_of f).function && eqb (answer_number o) 0) && none_of these o.answer.after o.store es

-- "each accepted one, and each right password, .. starts the 240 again": a change, a zeroing, an unlock
abbrev pub renews : Function → Bool
renews function.Change = true
renews function.Zero = true
renews function.Unlock = true
renews function.Lock = false
renews (function.Read reading) = false
renews function.Unknown = false

-- and those that restore protection
abbrev pub renews_or_locks : Function → Bool
renews_or_locks function.Change = true
renews_or_locks function.Zero = true
renews_or_locks function.Unlock = true
renews_or_locks function.Lock = true
renews_or_locks (function.Read reading) = false
renews_or_locks function.Unknown = false

pub record Demand2Second : Type 0 where
  -- a record within its ranges has its second; nothing of it changes but protection, the clock and the season
  pub done : (r : Record) → is_within r ≡ true → (x : Record) × (second_of r ≡ Ok x)
  pub alone : (r x : Record) → second_of r ≡ Ok x → x ≡ with_time (with_protection r x.protection) (shows r.time x.time.clock x.time.season)
  -- "One call is one second": the clock goes on by one, and the season stays, where it does not end there. So an hour is not gone back "a second time at the next
  -- 03:00 of the same October day": that is in winter season, which does not end in October
  pub goes_on : (r x : Record) (u : DateTime) → second_of r ≡ Ok x → Follows r.time.clock u → (EndsAt r.time.season r.time u → ⊥)
      → x.time ≡ shows r.time u r.time.season
  pub not_twice : (r x : Record) (d : Date) → second_of r ≡ Ok x → Follows r.time.clock (on_hour d 3) → r.time.season ≡ Winter → r.time.summer ≡ Automatic
      → d.month ≡ 10 → x.time ≡ shows r.time (on_hour d 3) Winter
  -- "In summer season the second that would reach 03:00:00 on the last Sunday of October gives 02:00:00 and winter"; a date by hand goes back an hour too
  pub into-winter : (r x : Record) (u : DateTime) → second_of r ≡ Ok x → Follows r.time.clock u → r.time.season ≡ Summer → r.time.winter ≡ Automatic
      → SundayHour 10 3 u → x.time ≡ shows r.time (on_hour u.date 2) Winter
  pub into_winter_by_hand : (r x : Record) (u : DateTime) → second_of r ≡ Ok x → Follows r.time.clock u → r.time.season ≡ Summer → r.time.winter ≡ ByHand u
      → (x.time.season ≡ Winter) × HourOn x.time.clock u
  -- "In winter season the one that would reach 02:00:00 on the last Sunday of March gives 03:00:00 and summer"; by hand likewise
  pub into-summer : (r x : Record) (u : DateTime) → second_of r ≡ Ok x → Follows r.time.clock u → r.time.season ≡ Winter → r.time.summer ≡ Automatic
      → SundayHour 3 2 u → x.time ≡ shows r.time (on_hour u.date 3) Summer
  pub into_summer_by_hand : (r x : Record) (u : DateTime) → second_of r ≡ Ok x → Follows r.time.clock u → r.time.season ≡ Winter → r.time.summer ≡ ByHand u
      → (x.time.season ≡ Summer) × HourOn u x.time.clock
  -- "After 2099-12-31 23:59:59 the clock stands still"; every other time has a next
  pub stands : (r x : Record) → second_of r ≡ Ok x → r.time.clock ≡ last_second → x.time ≡ r.time
  pub next : (t : DateTime) → is_time t ≡ true → (t ≡ last_second → ⊥) → (u : DateTime) × Follows t u
  -- "1 to 240 while open, else 0": so many quiet seconds take so many from those left, and the last ends the level. P10, by the meter's second: "239 quiet seconds
  -- keep the level, the 240th ends it"
  pub quiet : (n : ℕ) (r : Record) → is_within r ≡ true → let p = r.protection in
      (passing n r).protection ≡ cond (ltb n p.left) (record { level = p.level; left = p.left - n }) shut
  pub kept_239 : (l : Level) (r : Record) → is_within r ≡ true → r.protection ≡ opened l → (passing 239 r).protection.level ≡ l
  pub ended_240 : (l : Level) (r : Record) → is_within r ≡ true → r.protection ≡ opened l → (passing 240 r).protection ≡ shut
  -- "After 240 seconds without an accepted change or zeroing, protection returns", whatever was left, and whatever other frames came between; and it does not return
  -- before, unless a frame restores it
  pub returns : (r : Record) (s : List ℕ) (es : List Event) → is_sound r s ≡ true → none_of renews r s es ≡ true → 240 ≤ seconds_in es
      → (after r s es).protection ≡ shut
  pub until_then : (r : Record) (s : List ℕ) (es : List Event) → is_sound r s ≡ true → none_of renews_or_locks r s es ≡ true → seconds_in es < r.protection.left
      → (after r s es).protection ≡ record { level = r.protection.level; left = r.protection.left - seconds_in es }
