-- Demand 2, the second: the count of seconds is the calendar's own, so the next second is the one that the meter's clock would reach, and the last Sundays are those
-- that it looks for; protection by the seconds left, over any list.
use mathlib.Core.Path.{◌≡◌, refl, sym, ap, ap₂, subst, ◌∙◌}
use mathlib.Core.Bool.{Bool, true, false, ◌&&◌, false≢true}
use Prim.Native.Nat.{ℕ, ◌+◌, ◌*◌, ◌-◌, ◌/◌, ◌%◌, ◌≤◌, ◌<◌}
use native.Mathlib.Omega.{arith}
use lib.Dec.{T, eqb, leb, ltb}
use borrow.Author.Tests.{eq-eqb, eqb-true, lt-ltb, ltb-true, ltb-false, leb-true, le-leb}
use Rattle.std.specs.Prelude.{Err, Ok, Result}
use Rattle.test_laws.proofs.Test.{both, passed, either}
use Rattle.calendar.specs.Count.{starts}
use Rattle.calendar.proofs.CountLaws.{every_piece, at_piece}
use Rattle.calendar.specs.Date.{leap, month_lengths, days_in_month, length_of, day_number, is_date}
use Rattle.calendar.proofs.DateLaws.{ranges}
use Rattle.calendar.specs.Sunday.{last_sunday}
use Rattle.calendar.proofs.SundayLaws.{last-sunday}
use Rattle.calendar.specs.Time.{is_time, second_number, century_seconds, time_of, time_back, seconds_later, seconds_earlier}
use Rattle.calendar.proofs.TimeLaws.{time-ranges, time-of, time-at, time-past, second_below, same_second, of_day, later-that-day, earlier-that-day}
use Rattle.calendar.specs.declared.date.Date.{Date}
use Rattle.calendar.specs.declared.time.DateTime.{DateTime}
use Rattle.calendar.specs.declared.time.TimeError.{TimeError}
use Rattle.calendar.specs.declared.time.TimeError.TheVariants as time
use Rattle.meter_clock.specs.Season.{on_hour, sunday, chosen_date, winter_date, summer_date, is_switchable, same_date, same_time}
use Rattle.meter_clock.specs.Season.{shows, switched, into_winter, into_summer, in_season, reached, next_time}
use Rattle.meter_clock.proofs.SecondLaws.{fitting}
use Rattle.meter_clock.specs.declared.season.Season.{Season}
use Rattle.meter_clock.specs.declared.season.Season.TheVariants.{Winter, Summer}
use Rattle.meter_clock.specs.declared.season.SwitchDate.{SwitchDate}
use Rattle.meter_clock.specs.declared.season.SwitchDate.TheVariants.{Automatic, ByHand}
use Rattle.meter_clock.specs.declared.season.Time.{Time}
use Rattle.meter_record.proofs.RangeLaws.{within}
use Rattle.meter_record.specs.Ranges.{is_within}
use Rattle.meter_record.specs.Record.{later, second_of}
use Rattle.meter_record.specs.With.{with_protection, with_time}
use Rattle.meter_record.specs.declared.record.Record.{Record}
use Rattle.meter_record.specs.declared.record.RecordError.{RecordError}
use Rattle.claims.specs.Demand2Second.{days_to_month, days_to, seconds_to, Follows, HourOn, last_second, SundayHour, Begins, EndsAt, record_after}
use Rattle.claims.proofs.Again.{is_handed}

-- a test that cannot pass fails
pub missed : (b : Bool) → (b ≡ true → ⊥) → b ≡ false
missed true k = absurd (k refl)
missed false k = refl

-- ---- the two counts agree

-- month number k begins where the count says, by the months before it: one test, computed over the hundred years
agrees : ℕ → ℕ → Bool
agrees k s = eqb s (days_to_month (k / 12) (k % 12 + 1))

all-agree : T (every_piece length_of agrees 1200 0 0)
unfolding every_piece agrees days_to_month starts length_of days_in_month month_lengths leap
all-agree = tt

months-agree : (y m : ℕ) → y < 100 → 1 ≤ m → m ≤ 12 → starts length_of (12 * y + (m - 1)) ≡ days_to_month y m
unfolding agrees starts
months-agree y m hy from to =
    let k : ℕ = 12 * y + (m - 1) in
    let t : agrees k (starts length_of k) ≡ true = at_piece length_of agrees 1200 0 (passed _ all-agree) k (omega arith) (omega arith) in
    let i : k % 12 + 1 ≡ m = omega arith in
    let j : k / 12 ≡ y = omega arith in
    eqb-true _ _ t ∙ ap₂ days_to_month j i

days-agree : (d : Date) → is_date d ≡ true → days_to d ≡ day_number d
unfolding days_to day_number
days-agree d e =
    let r = ranges d e in
    ap (λ (n : ℕ). n + (d.day - 1)) (sym (months-agree d.year d.month r.year-below r.month-from r.month-to))

seconds-agree : (t : DateTime) → is_time t ≡ true → seconds_to t ≡ second_number t
unfolding seconds_to second_number
seconds-agree t e =
    let d = days-agree t.date (time-ranges t e).date in
    omega (arith, d)

-- ---- the second that would be reached

follows_is : (t u : DateTime) → is_time t ≡ true → Follows t u → seconds_later t 1 ≡ Ok u
unfolding seconds_later
follows_is t u e f =
    let n : second_number u ≡ second_number t + 1 = sym (seconds-agree u f.time) ∙ f.one_more ∙ ap (λ (n : ℕ). n + 1) (seconds-agree t e) in
    rw e (time-at (second_number t + 1) u (record { valid = f.time; number = n }))

last-is-time : is_time last_second ≡ true
unfolding is_time is_date days_in_month month_lengths
last-is-time = refl

-- demand 2's `next`: every time but the last second of 2099 has one that follows
pub next : (t : DateTime) → is_time t ≡ true → (t ≡ last_second → ⊥) → (u : DateTime) × Follows t u
unfolding seconds_to days_to days_to_month
next t e n =
    let last : second_number last_second + 1 ≡ century_seconds = ap (λ (k : ℕ). k + 1) (sym (seconds-agree last_second last-is-time)) in
    let more : second_number t + 1 < century_seconds = go (ltb (second_number t + 1) century_seconds) refl last in
    let w = time-of (second_number t + 1) more in
    let u = time_of (second_number t + 1) in
    (u, record { time = w.valid; one_more = seconds-agree u w.valid ∙ w.number ∙ ap (λ (k : ℕ). k + 1) (sym (seconds-agree t e)) })
  where
    go : (b : Bool) → ltb (second_number t + 1) century_seconds ≡ b → second_number last_second + 1 ≡ century_seconds → second_number t + 1 < century_seconds
    go true p last = ltb-true _ _ p
    go false p last =
        absurd (n (same_second t last_second e last-is-time (omega (arith, ltb-false (second_number t + 1) century_seconds p, second_below t e, last))))

-- ---- the moments

same-date : (a b : Date) → same_date a b ≡ true → a ≡ b
unfolding same_date
same-date a b h =
    let x = both (eqb a.day b.day && eqb a.month b.month) (eqb a.year b.year) h in
    let y = both (eqb a.day b.day) (eqb a.month b.month) x.0 in
    let d = eqb-true a.day b.day y.0 in
    let m = eqb-true a.month b.month y.1 in
    let n = eqb-true a.year b.year x.1 in
    λ i. record { year = n i; month = m i; day = d i }

same-time : (a b : DateTime) → same_time a b ≡ true → a ≡ b
unfolding same_time
same-time a b h =
    let x = both (eqb a.second b.second && eqb a.minute b.minute && eqb a.hour b.hour) (same_date a.date b.date) h in
    let y = both (eqb a.second b.second && eqb a.minute b.minute) (eqb a.hour b.hour) x.0 in
    let z = both (eqb a.second b.second) (eqb a.minute b.minute) y.0 in
    let d = same-date a.date b.date x.1 in
    let o = eqb-true a.hour b.hour y.1 in
    let m = eqb-true a.minute b.minute z.1 in
    let s = eqb-true a.second b.second z.0 in
    λ i. record { date = d i; hour = o i; minute = m i; second = s i }

time-itself : (a : DateTime) → same_time a a ≡ true
unfolding same_time same_date
time-itself a =
    let same : (n : ℕ) → eqb n n ≡ true = λ n. eq-eqb n n refl in
    simp (same a.second, same a.minute, same a.hour, same a.date.day, same a.date.month, same a.date.year)

-- March and October have 31 days
record Long (m : ℕ) : Type 0 where
  from : 1 ≤ m
  to : m ≤ 12
  days : (y : ℕ) → y < 100 → days_in_month y m ≡ 31

march : Long 3
unfolding days_in_month month_lengths
march = record { from = omega arith; to = omega arith; days = λ y h. simp (lt-ltb y 100 h) }

october : Long 10
unfolding days_in_month month_lengths
october = record { from = omega arith; to = omega arith; days = λ y h. simp (lt-ltb y 100 h) }

-- a Sunday's full hour is the automatic date's, and the other way round
module _ (m h : ℕ) (long : Long m) (u : DateTime) (e : is_time u ≡ true) where
  abbrev y : ℕ
  y = u.date.year

  year-below : y < 100
  year-below = (ranges u.date (time-ranges u e).date).year-below

  sunday-is : SundayHour m h u → u ≡ on_hour (sunday y m) h
  unfolding day_number
  sunday-is s =
      let date = (time-ranges u e).date in
      let r = ranges u.date date in
      let l = last-sunday y m (record { year-below = year-below; month-from = long.from; month-to = long.to }) in
      let n : day_number u.date % 7 ≡ 1 = ap (λ (k : ℕ). k % 7) (sym (days-agree u.date date)) ∙ s.sunday in
      let most : u.date.day ≤ 31 = subst (λ (k : ℕ). u.date.day ≤ k) (ap (days_in_month y) s.in_month ∙ long.days y year-below) r.day-to in
      let o : starts length_of (12 * y + (u.date.month - 1)) ≡ starts length_of (12 * y + (m - 1)) = ap (λ (k : ℕ). starts length_of (12 * y + (k - 1))) s.in_month in
      let day : u.date.day ≡ last_sunday y m =
      omega (arith, n, o, most, s.last, r.day-from, l.sunday, l.last, l.in_month, long.days y year-below) in
      let month = s.in_month in
      s.full_hour ∙ (λ i. on_hour (record { year = y; month = month i; day = day i }) h)

  is-sunday : u ≡ on_hour (sunday y m) h → SundayHour m h u
  is-sunday q =
      let date = (time-ranges u e).date in
      let l = last-sunday y m (record { year-below = year-below; month-from = long.from; month-to = long.to }) in
      let d : u.date ≡ sunday y m = ap (λ (t : DateTime). t.date) q in
      let n : days_to u.date ≡ day_number (sunday y m) = days-agree u.date date ∙ ap day_number d in
      record {
        in_month = ap (λ (x : Date). x.month) d;
        sunday = omega (arith, n, l.sunday);
        last = omega (arith, ap (λ (x : Date). x.day) d, l.last, long.days y year-below);
        full_hour = q ∙ ap (λ (x : Date). on_hour x h) (sym d);
      }

  -- whichever date a season begins by
  begins-same : (c : SwitchDate) → Begins c m h u → same_time u (chosen_date c (on_hour (sunday y m) h)) ≡ true
  begins-same Automatic s = subst (λ (t : DateTime). same_time u t ≡ true) (sunday-is s) (time-itself u)
  begins-same (ByHand t) q = subst (λ (x : DateTime). same_time u x ≡ true) q (time-itself u)

  same-begins : (c : SwitchDate) → same_time u (chosen_date c (on_hour (sunday y m) h)) ≡ true → Begins c m h u
  same-begins Automatic s = is-sunday (same-time u (on_hour (sunday y m) h) s)
  same-begins (ByHand t) s = same-time u t s

-- ---- an hour from a moment

at-hour : (u : DateTime) (h : ℕ) → u ≡ on_hour u.date h → of_day u.hour u.minute u.second ≡ 3600 * h
at-hour u h e =
    let a = ap (λ (t : DateTime). t.hour) e in
    let b = ap (λ (t : DateTime). t.minute) e in
    let c = ap (λ (t : DateTime). t.second) e in
    omega (arith, a, b, c)

-- "A date in the first hour of 2000 or the last of 2099 is a wrong argument": so there is an hour on either side
hours-beside : (u : DateTime) → is_switchable u ≡ true → (3600 ≤ second_number u) × (second_number u + 3600 < century_seconds)
unfolding is_switchable
hours-beside u k =
    let a = both (is_time u && leb 3600 (second_number u)) (ltb (second_number u + 3600) century_seconds) k in
    (leb-true 3600 (second_number u) (both (is_time u) (leb 3600 (second_number u)) a.0).1, ltb-true (second_number u + 3600) century_seconds a.1)

hour-back : (u : DateTime) → is_time u ≡ true → is_switchable u ≡ true → (v : DateTime) × ((seconds_earlier u 3600 ≡ Ok v) × HourOn v u)
unfolding seconds_earlier time_back
hour-back u e k =
    let n = (hours-beside u k).0 in
    let w = time-of (second_number u - 3600) (omega (arith, second_below u e)) in
    let v = time_of (second_number u - 3600) in
    let apart : seconds_to u ≡ seconds_to v + 3600 = omega (arith, seconds-agree u e, seconds-agree v w.valid, w.number, n) in
    (v, (simp (e, le-leb 3600 (second_number u) n) (time-at (second_number u - 3600) v w), record { early = w.valid; late = e; apart = apart }))

hour-on : (u : DateTime) → is_time u ≡ true → is_switchable u ≡ true → (v : DateTime) × ((seconds_later u 3600 ≡ Ok v) × HourOn u v)
unfolding seconds_later
hour-on u e k =
    let w = time-of (second_number u + 3600) (hours-beside u k).1 in
    let v = time_of (second_number u + 3600) in
    let apart : seconds_to v ≡ seconds_to u + 3600 = omega (arith, seconds-agree u e, seconds-agree v w.valid, w.number) in
    (v, (simp e (time-at (second_number u + 3600) v w), record { early = e; late = w.valid; apart = apart }))

last-past : seconds_later last_second 1 ≡ Err time.OutOfRange
unfolding seconds_later seconds_to days_to days_to_month
last-past =
    let last : second_number last_second + 1 ≡ century_seconds = ap (λ (k : ℕ). k + 1) (sym (seconds-agree last_second last-is-time)) in
    simp last-is-time (time-past (second_number last_second + 1) (omega (arith, last)))

-- ---- what the clock shows

-- a second that is done is the record's own
second_is : (r x : Record) → second_of r ≡ Ok x → (is_within r ≡ true) × (x ≡ later r)
unfolding second_of
second_is r x h = go (is_within r) refl
  where
    go : (b : Bool) → is_within r ≡ b → (is_within r ≡ true) × (x ≡ later r)
    go true e = (e, ap (λ (a : Result Record RecordError). record_after a r) (sym (simp e at h)))
    go false e = absurd (false≢true (ap is_handed (simp e at h)))

-- demand 2's `done`: a record within its ranges has its second
pub done : (r : Record) → is_within r ≡ true → (x : Record) × (second_of r ≡ Ok x)
unfolding second_of
done r e = (later r, simp e)

-- the dates that were chosen stay
choices-kept : (t : Time) → next_time t ≡ shows t (next_time t).clock (next_time t).season
unfolding next_time reached in_season into_winter into_summer switched
choices-kept t = go (seconds_later t.clock 1) refl
  where
    Kept : Time → Type 0
    Kept x = x ≡ shows t x.clock x.season

    by : (s : Season) (u : DateTime) → Kept (in_season s t u)
    by Summer u = either Kept (same_time u (winter_date t.winter u.date.year)) refl refl
    by Winter u = either Kept (same_time u (summer_date t.summer u.date.year)) refl refl

    go : (a : Result DateTime TimeError) → seconds_later t.clock 1 ≡ a → Kept (next_time t)
    go (Ok u) e = simp e (by t.season u)
    go (Err time.NotATime) e = simp e
    go (Err time.OutOfRange) e = simp e

-- what a second at hand gives
module _ (r x : Record) (h : second_of r ≡ Ok x) where
  abbrev t : Time
  t = r.time

  in_range : is_within r ≡ true
  in_range = (second_is r x h).0

  clock-is-time : is_time t.clock ≡ true
  clock-is-time = (fitting t (within r in_range).time).clock

  shown : x.time ≡ next_time t
  unfolding later
  shown = ap (λ (y : Record). y.time) (second_is r x h).1

  -- demand 2's `alone`: a second changes protection, the clock and the season, and nothing else
  pub alone : x ≡ with_time (with_protection r x.protection) (shows t x.time.clock x.time.season)
  unfolding later
  alone =
      subst (λ (y : Record). y ≡ with_time (with_protection r y.protection) (shows t y.time.clock y.time.season)) (sym (second_is r x h).1)
      (ap (λ (z : Time). with_time (with_protection r (later r).protection) z) (choices-kept t))

  -- the second that would be reached, by the season
  would : (u : DateTime) → Follows t.clock u → (s : Season) → t.season ≡ s → x.time ≡ in_season s t u
  unfolding next_time reached
  would u f s e =
      let l = follows_is t.clock u clock-is-time f in
      shown ∙ simp (l, e)

  -- no season ends there
  pub goes_on : (u : DateTime) → Follows t.clock u → (EndsAt t.season t u → ⊥) → x.time ≡ shows t u t.season
  unfolding in_season into_winter into_summer switched
  goes_on u f n = go t.season refl
    where
      go : (s : Season) → t.season ≡ s → x.time ≡ shows t u t.season
      go Summer e =
          would u f Summer e
          ∙ simp (missed (same_time u (winter_date t.winter u.date.year)) (λ k. n (rw e (same-begins 10 3 october u f.time t.winter k))))
      go Winter e =
          would u f Winter e
          ∙ simp (missed (same_time u (summer_date t.summer u.date.year)) (λ k. n (rw e (same-begins 3 2 march u f.time t.summer k))))

  -- demand 2's `not_twice`: in winter the October day's 03:00 goes back no hour
  pub not_twice : (d : Date) → Follows t.clock (on_hour d 3) → t.season ≡ Winter → t.summer ≡ Automatic → d.month ≡ 10
      → x.time ≡ shows t (on_hour d 3) Winter
  not_twice d f e a m =
      goes_on (on_hour d 3) f (λ k. march-only t.season e k) ∙ ap (shows t (on_hour d 3)) e
    where
      march-only : (s : Season) → s ≡ Winter → EndsAt s t (on_hour d 3) → ⊥
      march-only s q k =
          let b : Begins t.summer 3 2 (on_hour d 3) = rw q at k in
          let w : SundayHour 3 2 (on_hour d 3) = rw a at b in
          omega (arith, w.in_month, m)

  -- the season ends there, and the time an hour from it is shown
  to-winter : (u v : DateTime) → Follows t.clock u → t.season ≡ Summer → Begins t.winter 10 3 u → seconds_earlier u 3600 ≡ Ok v
      → x.time ≡ shows t v Winter
  unfolding in_season into_winter switched
  to-winter u v f e b q = would u f Summer e ∙ simp (begins-same 10 3 october u f.time t.winter b, q)

  to-summer : (u v : DateTime) → Follows t.clock u → t.season ≡ Winter → Begins t.summer 3 2 u → seconds_later u 3600 ≡ Ok v
      → x.time ≡ shows t v Summer
  unfolding in_season into_summer switched
  to-summer u v f e b q = would u f Winter e ∙ simp (begins-same 3 2 march u f.time t.summer b, q)

  -- demand 2's `into-winter`: in summer the second that would reach October's 03:00:00 gives 02:00:00 and winter
  pub into-winter : (u : DateTime) → Follows t.clock u → t.season ≡ Summer → t.winter ≡ Automatic → SundayHour 10 3 u
      → x.time ≡ shows t (on_hour u.date 2) Winter
  into-winter u f e a s =
      let q = earlier-that-day u 3600 2 0 0 f.time (omega arith) (omega arith) (omega arith) (at-hour u 3 s.full_hour) in
      to-winter u (on_hour u.date 2) f e (rw a s) q

  -- demand 2's `into-summer`: in winter the one that would reach March's 02:00:00 gives 03:00:00 and summer
  pub into-summer : (u : DateTime) → Follows t.clock u → t.season ≡ Winter → t.summer ≡ Automatic → SundayHour 3 2 u
      → x.time ≡ shows t (on_hour u.date 3) Summer
  into-summer u f e a s =
      let q = later-that-day u 3600 3 0 0 f.time (omega arith) (omega arith) (omega arith) (ap (λ (n : ℕ). n + 3600) (at-hour u 2 s.full_hour)) in
      to-summer u (on_hour u.date 3) f e (rw a s) q

  -- demand 2's `into_winter_by_hand`: a date by hand goes back an hour too, when a second would reach it
  pub into_winter_by_hand : (u : DateTime) → Follows t.clock u → t.season ≡ Summer → t.winter ≡ ByHand u
      → (x.time.season ≡ Winter) × HourOn x.time.clock u
  into_winter_by_hand u f e a =
      let k : is_switchable u ≡ true = rw a at (fitting t (within r in_range).time).winter in
      let w = hour-back u f.time k in
      let z = to-winter u w.0 f e (rw a refl) w.1.0 in
      (ap (λ (y : Time). y.season) z, subst (λ (y : Time). HourOn y.clock u) (sym z) w.1.1)

  -- demand 2's `into_summer_by_hand`: a date by hand goes on an hour, when a second would reach it
  pub into_summer_by_hand : (u : DateTime) → Follows t.clock u → t.season ≡ Winter → t.summer ≡ ByHand u
      → (x.time.season ≡ Summer) × HourOn u x.time.clock
  into_summer_by_hand u f e a =
      let k : is_switchable u ≡ true = rw a at (fitting t (within r in_range).time).summer in
      let w = hour-on u f.time k in
      let z = to-summer u w.0 f e (rw a refl) w.1.0 in
      (ap (λ (y : Time). y.season) z, subst (λ (y : Time). HourOn u y.clock) (sym z) w.1.1)

  -- demand 2's `stands`: after the last second of 2099 the clock stands still
  pub stands : t.clock ≡ last_second → x.time ≡ t
  unfolding next_time
  stands e = shown ∙ simp (ap (λ (c : DateTime). seconds_later c 1) e ∙ last-past)
