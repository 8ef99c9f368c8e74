-- What follows: the automatic date as the calendar answers it, which dates are switchable by the hours beside them, and that a second
-- keeps the ranges.
use Rattle.std.specs.Prelude.{Err, Ok, Result}
use Rattle.std.specs.Result.{is_ok}
use Rattle.calendar.specs.declared.time.TimeError.{TimeError}
use mathlib.Core.Path.{◌≡◌, refl, ap₂}
use mathlib.Core.Bool.{Bool, true, false, ◌&&◌}
use Prim.Native.Nat.{ℕ, ◌+◌, ◌-◌, ◌≤◌, ◌<◌}
use native.Mathlib.Omega.{arith}
use lib.Dec.{leb, ltb}
use borrow.Author.Tests.{le-leb, lt-ltb, leb-true, leb-false, eqb-true}
use Rattle.test_laws.proofs.Test.{both, either}
use Rattle.calendar.specs.Date.{days_in_month}
use Rattle.calendar.specs.Sunday.{last_sunday, last_sunday_of}
use Rattle.calendar.specs.Time.{is_time, second_number, century_seconds, time_at, time_back, seconds_later, seconds_earlier}
use Rattle.calendar.proofs.TimeLaws.{second_below, seconds-later, seconds-earlier}
use Rattle.calendar.specs.declared.time.DateTime.{DateTime}
use Rattle.calendar.specs.declared.time.TimeError.TheVariants as time
use Rattle.meter_clock.specs.Protection.{is_running, is_protection, quiet_second}
use Rattle.meter_clock.specs.Season.{day_of, is_switchable, is_choice, is_fitting, time_or, shows, switched, into_winter, into_summer, in_season, reached, next_time, same_time}
use Rattle.meter_clock.specs.declared.protection.Level.{Level}
use Rattle.meter_clock.specs.declared.protection.Level.TheVariants.{Shut, Auxiliary, Main}
use Rattle.meter_clock.specs.declared.protection.Protection.{Protection}
use Rattle.meter_clock.specs.declared.season.Season.{Season}
use Rattle.meter_clock.specs.declared.season.Season.TheVariants.{Winter, Summer}
use Rattle.meter_clock.specs.declared.season.Time.{Time}

-- the calendar's answer has the last Sunday's day; past 2099 there is none, and no day
pub sunday_day : (y m : ℕ) → day_of (last_sunday_of y m) ≡ last_sunday y m
unfolding last_sunday_of last_sunday days_in_month
sunday_day y m = go (ltb y 100) refl
  where
    go : (b : Bool) → ltb y 100 ≡ b → day_of (last_sunday_of y m) ≡ last_sunday y m
    go true e = simp e
    go false e = simp e (omega arith)

-- ---- a date is switchable exactly where the calendar has the hour before it and the hour after it

-- `is_switchable` asks the calendar for both hours: that is its definition
pub hours-ok : (t : DateTime) → is_ok (seconds_earlier t 3600) && is_ok (seconds_later t 3600) ≡ is_switchable t
unfolding is_switchable seconds_earlier seconds_later time_back time_at
hours-ok t = go (is_time t) refl (leb 3600 (second_number t)) refl (ltb (second_number t + 3600) century_seconds) refl
  where
    go : (a : Bool) → is_time t ≡ a → (b : Bool) → leb 3600 (second_number t) ≡ b → (c : Bool) → ltb (second_number t + 3600) century_seconds ≡ c
        → is_ok (seconds_earlier t 3600) && is_ok (seconds_later t 3600) ≡ is_switchable t
    go false e b f c g = simp (e, f, g)
    go true e false f c g = simp (e, f, g)
    go true e true f c g =
        let below : ltb (second_number t - 3600) century_seconds ≡ true = lt-ltb (second_number t - 3600) century_seconds (omega (arith, second_below t e)) in
        go-more c g below
      where
        go-more : (c : Bool) → ltb (second_number t + 3600) century_seconds ≡ c → ltb (second_number t - 3600) century_seconds ≡ true
            → is_ok (seconds_earlier t 3600) && is_ok (seconds_later t 3600) ≡ is_switchable t
        go-more true g h = simp (e, f, g, h)
        go-more false g h = simp (e, f, g, h)

-- ---- a second keeps the ranges

-- the time that the calendar answered, or the one that it was asked about
answer-is-time : (u : DateTime) (a : Result DateTime TimeError) → ((v : DateTime) → a ≡ Ok v → is_time v ≡ true) → is_time u ≡ true → is_time (time_or a u) ≡ true
answer-is-time u (Ok v) f h = f v refl
answer-is-time u (Err time.NotATime) f h = h
answer-is-time u (Err time.OutOfRange) f h = h

-- what fits, part by part
pub record Fitting (t : Time) : Type 0 where
  pub clock : is_time t.clock ≡ true
  pub summer : is_choice t.summer ≡ true
  pub winter : is_choice t.winter ≡ true

-- what is known of a time that was tested
pub fitting : (t : Time) → is_fitting t ≡ true → Fitting t
unfolding is_fitting
fitting t h =
    let a = both (is_time t.clock && is_choice t.summer) (is_choice t.winter) h in
    let b = both (is_time t.clock) (is_choice t.summer) a.0 in
    record { clock = b.0; summer = b.1; winter = a.1 }

-- what has to be shown of one that is made
pub is-fitting : (t : Time) → Fitting t → is_fitting t ≡ true
unfolding is_fitting
is-fitting t f = ap₂ ◌&&◌ (ap₂ ◌&&◌ f.clock f.summer) f.winter

-- the clock moved, and the season with it or not
moved-fits : (t : Time) (u : DateTime) (s : Season) → is_fitting t ≡ true → is_time u ≡ true → is_fitting (shows t u s) ≡ true
moved-fits t u s h e = let f = fitting t h in is-fitting (shows t u s) (record { clock = e; summer = f.summer; winter = f.winter })

switched-fits : (t : Time) (u begins shown : DateTime) (s : Season) → is_fitting t ≡ true → is_time u ≡ true → is_time shown ≡ true
    → is_fitting (switched t u begins shown s) ≡ true
unfolding switched
switched-fits t u begins shown s h e g =
    either (λ x. is_fitting x ≡ true) (same_time u begins) (moved-fits t shown s h g) (moved-fits t u t.season h e)

reached-fits : (s : Season) (t : Time) (u : DateTime) → is_fitting t ≡ true → is_time u ≡ true → is_fitting (in_season s t u) ≡ true
unfolding in_season into_summer into_winter
reached-fits Winter t u h e = switched-fits t u _ _ Summer h e (answer-is-time u (seconds_later u 3600) (λ v p. (seconds-later u 3600 v p).valid) e)
reached-fits Summer t u h e = switched-fits t u _ _ Winter h e (answer-is-time u (seconds_earlier u 3600) (λ v p. (seconds-earlier u 3600 v p).valid) e)

-- a second keeps the record's ranges: the clock's part
pub next_fits : (t : Time) → is_fitting t ≡ true → is_fitting (next_time t) ≡ true
unfolding next_time reached
next_fits t h = go (seconds_later t.clock 1) refl
  where
    go : (a : Result DateTime TimeError) → seconds_later t.clock 1 ≡ a → is_fitting (next_time t) ≡ true
    go (Ok u) e = simp e (reached-fits t.season t u h (seconds-later t.clock 1 u e).valid)
    go (Err time.NotATime) e = simp e h
    go (Err time.OutOfRange) e = simp e h

-- a second fewer of those that run, but the last
fewer : {n : ℕ} → 1 < n → is_running n ≡ true → is_running (n - 1) ≡ true
unfolding is_running
fewer {n} m h =
    let most : n ≤ 240 = leb-true n 240 (both (leb 1 n) (leb n 240) h).1 in
    rw (le-leb 1 (n - 1) (omega arith), le-leb (n - 1) 240 (omega arith))

-- and protection's
pub quiet-fits : (p : Protection) → is_protection p ≡ true → is_protection (quiet_second p) ≡ true
unfolding quiet_second is_protection is_running
quiet-fits p h = go p.level refl (leb p.left 1) refl
  where
    go : (l : Level) → p.level ≡ l → (b : Bool) → leb p.left 1 ≡ b → is_protection (quiet_second p) ≡ true
    go l e true f = simp f
    go Shut e false f =
        let z : p.left ≡ 0 = eqb-true p.left 0 (rw e at h) in
        absurd (omega (arith, leb-false p.left 1 f))
    go Auxiliary e false f = simp (e, f) (fewer (leb-false p.left 1 f) (rw e at h))
    go Main e false f = simp (e, f) (fewer (leb-false p.left 1 f) (rw e at h))
