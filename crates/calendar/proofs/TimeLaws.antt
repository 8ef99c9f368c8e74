-- What follows from the definitions of times: second numbers and times correspond one to one, and the seconds later and earlier are so
-- many second numbers on and back.
use Rattle.std.specs.Prelude.{Err, Ok, Result}
use Rattle.calendar.specs.declared.time.TimeError.{TimeError}
use Prim.Native.Nat.{ℕ, ◌+◌, ◌*◌, ◌-◌, ◌/◌, ◌%◌, ◌≤◌, ◌<◌}
use native.Mathlib.Omega.{arith}
use mathlib.Core.Path.{◌≡◌, refl}
use mathlib.Core.Bool.{Bool, true, false}
use lib.Dec.{ltb, leb}
use borrow.Author.Tests.{ltb-true, ltb-false, leb-true, leb-false, lt-ltb, le-ltb, le-leb, lt-leb}
use Rattle.test_laws.proofs.Test.{both}
use Rattle.calendar.specs.Date.{century_days, is_date, day_number, date_of, date_on, date_back, days_later, days_earlier}
use Rattle.calendar.proofs.DateLaws.{DateIs, date-of, date-of-number, number-below, date-on}
use Rattle.calendar.specs.Time.{is_time, second_number, century_seconds, time_of, time_at, time_back, seconds_later, seconds_earlier}
use Rattle.calendar.specs.Steps.{on_day}
use Rattle.calendar.proofs.Numbered.{Numbered, NumberedBefore, Numbering, same, answered, later, earlier}
use Rattle.calendar.specs.declared.date.Date.{Date}
use Rattle.calendar.specs.declared.time.DateTime.{DateTime}
use Rattle.calendar.specs.declared.time.TimeError.TheVariants.{NotATime, OutOfRange}

-- what a time's numbers keep to
pub record TimeRanges (t : DateTime) : Type 0 where
  pub date : is_date t.date ≡ true
  pub hour-below : t.hour < 24
  pub minute-below : t.minute < 60
  pub second_below : t.second < 60

-- what is known of a time that was tested
pub time-ranges : (t : DateTime) → is_time t ≡ true → TimeRanges t
unfolding is_time
time-ranges t e =
    let x = both _ _ e in
    let y = both _ _ x.0 in
    let z = both _ _ y.0 in
    record { date = z.0; hour-below = ltb-true _ _ z.1; minute-below = ltb-true _ _ y.1; second_below = ltb-true _ _ x.1 }

-- what has to be shown of one that is made
pub is-time : (t : DateTime) → TimeRanges t → is_time t ≡ true
unfolding is_time
is-time t r = simp (r.date, lt-ltb _ _ r.hour-below, lt-ltb _ _ r.minute-below, lt-ltb _ _ r.second_below)

-- the full hour before a time is a time
pub hour-began : (t : DateTime) → is_time t ≡ true → is_time (record { date = t.date; hour = t.hour; minute = 0; second = 0 }) ≡ true
hour-began t e =
    let r = time-ranges t e in
    is-time _ (record { date = r.date; hour-below = r.hour-below; minute-below = omega arith; second_below = omega arith })

-- t is the time with second number n
abbrev pub TimeIs : ℕ → DateTime → Type 0
TimeIs = Numbered is_time second_number

-- the second numbers below the century's seconds are the times'
pub time-of : (n : ℕ) → n < century_seconds → TimeIs n (time_of n)
unfolding time_of second_number
time-of n h =
    let d = date-of (n / 86400) (omega arith) in
    record {
      valid = is-time (time_of n) (record { date = d.valid; hour-below = omega arith; minute-below = omega arith; second_below = omega arith });
      number = rw d.number (omega arith);
    }

-- a time is the time of its second number
pub time-of-number : (t : DateTime) → is_time t ≡ true → time_of (second_number t) ≡ t
unfolding time_of second_number
time-of-number t e =
    let r = time-ranges t e in
    let q : second_number t / 86400 ≡ day_number t.date = omega arith in
    let h : second_number t % 86400 / 3600 ≡ t.hour = omega arith in
    let m : second_number t % 3600 / 60 ≡ t.minute = omega arith in
    let s : second_number t % 60 ≡ t.second = omega arith in
    let d : date_of (second_number t / 86400) ≡ t.date = rw q (date-of-number t.date r.date) in
    λ i. record { date = d i; hour = h i; minute = m i; second = s i }

-- a time's second number is one of the century's
pub second_below : (t : DateTime) → is_time t ≡ true → second_number t < century_seconds
unfolding second_number
second_below t e =
    let r = time-ranges t e in
    omega (arith, number-below t.date r.date, r.hour-below, r.minute-below, r.second_below)

-- times are numbered by their seconds
times : Numbering DateTime (Result DateTime TimeError)
times = record {
  is_valid = is_time;
  number_of = second_number;
  bound = century_seconds;
  nth = time_of;
  found = Ok;
  outside = Err OutOfRange;
  none = Err NotATime;
  nth-is = time-of;
  nth_number = time-of-number;
  number-below = second_below;
  found-one = λ t u p. cc;
  outside≢found = λ t p. let z : ◌≡◌ {A = ℕ} 0 1 = cc in omega arith;
  none≢found = λ t p. let z : ◌≡◌ {A = ℕ} 0 1 = cc in omega arith;
}

-- two times with one second number are one time
pub same_second : (a b : DateTime) → is_time a ≡ true → is_time b ≡ true → second_number a ≡ second_number b → a ≡ b
unfolding times
same_second = same times

-- ---- Seconds later and earlier

-- the answer at a second number is the one time that has it
pub time-at : (n : ℕ) (t : DateTime) → TimeIs n t → time_at n ≡ Ok t
unfolding times time_at
time-at = answered times

-- past 2099 there is no time: the clock stands at the century's end
pub time-past : (n : ℕ) → century_seconds ≤ n → time_at n ≡ Err OutOfRange
unfolding times time_at
time-past n h = rw (le-ltb _ _ h)

-- n seconds later the second number is n more
pub seconds-later : (t : DateTime) (n : ℕ) (u : DateTime) → seconds_later t n ≡ Ok u → TimeIs (second_number t + n) u
unfolding times seconds_later time_at
seconds-later = later times

-- n seconds earlier it is n less
abbrev pub TimeEarlier : DateTime → ℕ → DateTime → Type 0
TimeEarlier = NumberedBefore is_time second_number

-- an hour back in autumn is a time, and how far back
pub seconds-earlier : (t : DateTime) (n : ℕ) (u : DateTime) → seconds_earlier t n ≡ Ok u → TimeEarlier t n u
unfolding times seconds_earlier time_back time_at
seconds-earlier = earlier times

-- two times at which two counts of seconds lead to one
pub same_sum : (t u : DateTime) (n k : ℕ) → is_time t ≡ true → is_time u ≡ true → second_number t + n ≡ second_number u + k → seconds_later t n ≡ seconds_later u k
unfolding seconds_later
same_sum t u n k p q e = rw (p, q, e)

-- the second of the day
abbrev pub of_day : ℕ → ℕ → ℕ → ℕ
of_day h m s = (h * 60 + m) * 60 + s

-- a step from a time t by n seconds to the time of day h, m, s: on the same day, on the next, and back in both ways
module _ (t : DateTime) (n h m s : ℕ) (e : is_time t ≡ true) (hh : h < 24) (hm : m < 60) (hs : s < 60) where
  on : Date → DateTime
  on d = record { date = d; hour = h; minute = m; second = s }

  lands : (d : Date) (i k : ℕ) → DateIs i d → i * 86400 + of_day h m s ≡ k → time_at k ≡ Ok (on d)
  unfolding second_number on
  lands d i k w q = time-at k (on d) (record { valid = is-time (on d) (record { date = w.valid; hour-below = hh; minute-below = hm; second_below = hs }); number = omega (arith, w.number) })

  -- `second_after` and `hour_after` before midnight
  pub later-that-day : of_day t.hour t.minute t.second + n ≡ of_day h m s → seconds_later t n ≡ Ok (record { date = t.date; hour = h; minute = m; second = s })
  unfolding seconds_later second_number on
  later-that-day q =
      let r = time-ranges t e in
      rw e (lands t.date (day_number t.date) _ (record { valid = r.date; number = refl }) (omega arith))

  -- `hour_before` after one o'clock
  pub earlier-that-day : of_day t.hour t.minute t.second ≡ of_day h m s + n → seconds_earlier t n ≡ Ok (record { date = t.date; hour = h; minute = m; second = s })
  unfolding seconds_earlier time_back second_number on
  earlier-that-day q =
      let r = time-ranges t e in
      rw (e, le-leb n (second_number t) (omega arith))
      (lands t.date (day_number t.date) _ (record { valid = r.date; number = refl }) (omega arith))

  -- `hour_after` over midnight
  pub later-next-day : of_day t.hour t.minute t.second + n ≡ 86400 + of_day h m s → seconds_later t n ≡ on_day (days_later t.date 1) h m s
  unfolding seconds_later days_later date_on on_day second_number on
  later-next-day q = rw (e, (time-ranges t e).date) (go (ltb (day_number t.date + 1) century_days) refl)
    where
      go : (b : Bool) → ltb (day_number t.date + 1) century_days ≡ b → time_at (second_number t + n) ≡ on_day (date_on (day_number t.date + 1)) h m s
      go true p = rw p (lands _ (day_number t.date + 1) _ (date-of (day_number t.date + 1) (ltb-true _ _ p)) (omega arith))
      go false p = rw p (time-past _ (omega (arith, ltb-false (day_number t.date + 1) century_days p)))

  -- `hour_before` back over midnight
  pub earlier-day-before : of_day t.hour t.minute t.second + 86400 ≡ of_day h m s + n → seconds_earlier t n ≡ on_day (days_earlier t.date 1) h m s
  unfolding seconds_earlier time_back days_earlier date_back on_day second_number on
  earlier-day-before q = let r = time-ranges t e in rw (e, r.date) (go (leb 1 (day_number t.date)) refl r)
    where
      go : (b : Bool) → leb 1 (day_number t.date) ≡ b → TimeRanges t → time_back (second_number t) n ≡ on_day (date_back (day_number t.date) 1) h m s
      go true p r =
          let l = leb-true 1 (day_number t.date) p in
          let d = date-of (day_number t.date - 1) (omega (arith, number-below t.date r.date)) in
          rw (p, le-leb n (second_number t) (omega arith), date-on _ _ d) (lands _ (day_number t.date - 1) _ d (omega arith))
      go false p r = rw (p, lt-leb n (second_number t) (omega (arith, leb-false 1 (day_number t.date) p)))
