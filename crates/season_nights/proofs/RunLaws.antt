-- What follows from the definitions of specs/Run.antt: the run is what is missing of a log, all of it and nothing else, and lies within the log.
use Rattle.std.specs.Option.{SomeIff}
use Rattle.std.specs.Prelude.{Err, None, Ok, Option, Some}
use Prim.Native.Nat.{ℕ, ◌+◌, ◌*◌, ◌-◌, ◌/◌, ◌%◌, ◌≤◌, ◌<◌}
use native.Mathlib.Omega.{arith}
use native.Mathlib.Nat.{suc-mul, mul-le-mul_right, mod-lt, div-add-mod', div-mul-le_self}
use mathlib.Core.Path.{◌≡◌, refl, sym, ap, ◌∙◌}
use mathlib.Core.Bool.{Bool, true, false, cond, ◌&&◌, and-false}
use lib.Dec.{ltb, leb, eqb}
use lib.Arith.{digits_lt}
use borrow.Author.Tests.{ltb-true, ltb-false, leb-true, leb-false, eqb-true, eqb-false, lt-ltb, le-ltb, le-leb, lt-leb}
use Rattle.test_laws.proofs.Test.{chosen}
use Rattle.calendar.specs.Date.{length_of, days_in_month, days_before, century_days, is_date, month_number, day_number, date_of, date_on, days_later}
use Rattle.calendar.specs.Sunday.{last_sunday, last_sunday_of}
use Rattle.calendar.proofs.CountLaws.{starts-mono, ends-before}
use Rattle.calendar.proofs.DateLaws.{month-length, length-of-month, month-carried, ranges, DateIs, same_number, days-later}
use Rattle.calendar.specs.declared.date.Date.{Date}
use Rattle.calendar.specs.declared.date.DateError.TheVariants.{NotADate}
use Rattle.slots.specs.Day.{is_minutes, slots_of}
use Rattle.season_nights.specs.Night.{night_of, in_hour, is_spring, missing}
use Rattle.season_nights.specs.Run.{spring_day, spring_ahead, hour_of, no_run, run_at, missing_run, in_run}
use Rattle.season_nights.proofs.NightLaws.{leb-alike, ltb-alike, sunday, IsLast, sunday-last, late, years-ordered, years-apart, spring-told, spring-is, whole-hours, hour-slots}
use Rattle.season_nights.specs.declared.run.Run.{Run}

-- ---- The days to the March day

-- the calendar has one for every date's year
pub has-sunday : (d : Date) → is_date d ≡ true → last_sunday_of d.year 3 ≡ Ok (sunday d.year 3)
unfolding last_sunday_of
has-sunday d e = rw (lt-ltb _ _ (ranges d e).year-below)

-- the calendar's answer is that day
pub sunday-day : (d e : Date) → is_date d ≡ true → last_sunday_of d.year 3 ≡ Ok e → e.day ≡ last_sunday d.year 3
sunday-day d e v p =
    let q = sym p ∙ has-sunday d v in
    let r : e ≡ sunday d.year 3 = cc q in
    ap (λ (x : Date). x.day) r

-- the March day of the year is still to come
pub ahead_in : (d : Date) → is_date d ≡ true → day_number d ≤ spring_day d.year → spring_ahead d ≡ Some (spring_day d.year - day_number d)
unfolding spring_ahead
ahead_in d e h = rw (e, le-leb _ _ h)

-- or is past, and the next year's is too far for a log
pub ahead_past : (d : Date) → spring_day d.year < day_number d → spring_ahead d ≡ None
unfolding spring_ahead
ahead_past d h = rw (lt-leb _ _ h, and-false)

-- a month ends where the next begins
to-next : (y m : ℕ) → 1 ≤ m → m ≤ 12 → days_before (12 * y + (m - 1)) + days_in_month y m ≡ days_before (12 * y + m)
to-next y m h k =
    let n : ℕ = 12 * y + (m - 1) in
    let e : n + 1 ≡ 12 * y + m = omega arith in
    let c : days_before (12 * y + m) + (length_of n - length_of n) ≡ days_before n + length_of n = rw e at (month-carried n (length_of n) (omega arith)) in
    omega (arith, c, length-of-month y m h k)

-- `before_march`: the days from February's start
pub from-february : (y : ℕ) → days_before (12 * y + 1) + days_in_month y 2 ≡ days_before (12 * y + 2)
from-february y = to-next y 2 (omega arith) (omega arith)

-- and from January's
pub from-january : (y : ℕ) → days_before (12 * y + 0) + (days_in_month y 1 + days_in_month y 2) ≡ days_before (12 * y + 2)
from-january y =
    let a : days_before (12 * y + 0) + days_in_month y 1 ≡ days_before (12 * y + 1) = to-next y 1 (omega arith) (omega arith) in
    omega (arith, a, from-february y)

-- a month of the calendar has 31 days at most
pub at-most-31 : (y m : ℕ) → y < 100 → 1 ≤ m → m ≤ 12 → days_in_month y m ≤ 31
at-most-31 y m h i j = (month-length y m (record { year-below = h; month-from = i; month-to = j })).at_most

-- the last Sunday of March is one of its days
pub record OfMarch (y : ℕ) : Type 0 where
  pub from : 1 ≤ last_sunday y 3
  pub to : last_sunday y 3 ≤ days_in_month y 3

-- for every year: `to_day` adds and subtracts by it without going below 0
pub of-march : (y : ℕ) → y < 100 → OfMarch y
of-march y h =
    let s = sunday-last 3 (omega arith) (omega arith) y h in
    record { from = (ranges (sunday y 3) s.valid).day-from; to = (ranges (sunday y 3) s.valid).day-to }

-- by the days r from the first of the date's month to that of March
module _ (d : Date) (r : ℕ) (e : is_date d ≡ true) (b : days_before (month_number d) + r ≡ days_before (12 * d.year + 2)) where
  -- what `to_day` adds fits its byte
  pub at-most-62 : r ≤ 62
  at-most-62 =
      let i = ranges d e in
      let y = d.year in
      let january = at-most-31 y 1 i.year-below (omega arith) (omega arith) in
      let february = at-most-31 y 2 i.year-below (omega arith) (omega arith) in
      omega (arith, b, from-january y, january, february, starts-mono length_of (12 * y + 0) (month_number d) (omega arith))

  -- the arm of `to_day` for a day before the last Sunday
  pub sunday-ahead : d.day ≤ r + last_sunday d.year 3 → spring_ahead d ≡ Some (r + last_sunday d.year 3 - d.day)
  unfolding day_number
  sunday-ahead h =
      let i = ranges d e in
      let s = of-march d.year i.year-below in
      let n : spring_day d.year - day_number d ≡ r + last_sunday d.year 3 - d.day = omega (arith, b, i.day-from, s.from) in
      ahead_in d e (omega (arith, b, i.day-from, s.from)) ∙ ap Some n

  -- its arm for one behind it
  pub sunday-past : r + last_sunday d.year 3 < d.day → spring_ahead d ≡ None
  unfolding day_number
  sunday-past h = ahead_past d (omega (arith, b, (ranges d e).day-from, (of-march d.year (ranges d e).year-below).from))

  -- `to_day` subtracts the day where it can
  pub sunday-told : (s : ℕ) → s ≡ last_sunday d.year 3 → (o : Option ℕ) → SomeIff o (d.day ≤ r + s) (r + s - d.day) → o ≡ spring_ahead d
  sunday-told s q (Some x) h = ap Some (omega (arith, h.1)) ∙ sym (sunday-ahead (omega (arith, h.0)))
  sunday-told s q None h = sym (sunday-past (go (leb d.day (r + s)) refl))
    where
      go : (a : Bool) → leb d.day (r + s) ≡ a → r + last_sunday d.year 3 < d.day
      go true p = absurd (h (leb-true _ _ p))
      go false p = omega (arith, leb-false _ _ p)

-- after March it has passed
pub later-month : (d : Date) → is_date d ≡ true → 3 < d.month → spring_ahead d ≡ None
unfolding day_number
later-month d e h =
    let i = ranges d e in
    let s = of-march d.year i.year-below in
    let march : length_of (12 * d.year + 2) ≡ days_in_month d.year 3 = length-of-month d.year 3 (omega arith) (omega arith) in
    let after = ends-before length_of (12 * d.year + 2) (month_number d) (omega arith) in
    ahead_past d (omega (arith, s.from, s.to, march, after))

-- ---- A run and the cells

-- without a run no cell is missing
pub in-none : (cell : ℕ) → in_run no_run cell ≡ false
unfolding in_run
in-none cell = rw (le-ltb cell (0 + 0) (omega arith), and-false)

-- the hour of a day that begins at cell b
abbrev hour_from : ℕ → ℕ → Run
hour_from b hour = record { first = b + 2 * hour; count = hour }

in-hour : (b hour s : ℕ) → in_run (hour_from b hour) (b + s) ≡ (leb (2 * hour) s && ltb s (3 * hour))
unfolding in_run
in-hour b hour s =
    rw (
      leb-alike (b + 2 * hour) (b + s) (2 * hour) s (λ p. omega arith) (λ p. omega arith),
      ltb-alike (b + s) (b + 2 * hour + hour) s (3 * hour) (λ p. omega arith) (λ p. omega arith),
    )

-- no cell of a day before or after
not-before : (b hour i : ℕ) → i < b → in_run (hour_from b hour) i ≡ false
unfolding in_run
not-before b hour i h = rw (lt-leb (b + 2 * hour) i (omega arith))

not_after : (b hour i : ℕ) → b + 24 * hour ≤ i → in_run (hour_from b hour) i ≡ false
unfolding in_run
not_after b hour i h = rw (le-ltb i (b + 2 * hour + hour) (omega arith), and-false)

-- a day's cells end where the next day's begin
next_row : (k day n : ℕ) → k < day → k * n + n ≤ day * n
next_row k day n h = rw suc-mul at (mul-le-mul_right n h)

-- nor of any other day
other-day : (k m day s : ℕ) → (k ≡ day → ⊥) → s < slots_of m → in_run (hour_from (k * slots_of m) (hour_of m)) (day * slots_of m + s) ≡ false
other-day k m day s z h = go (ltb k day) refl
  where
    go : (b : Bool) → ltb k day ≡ b → in_run (hour_from (k * slots_of m) (hour_of m)) (day * slots_of m + s) ≡ false
    go true p =
        not_after (k * slots_of m) (hour_of m) (day * slots_of m + s) (omega (arith, next_row k day (slots_of m) (ltb-true k day p), whole-hours m))
    go false p =
        let after : day < k = omega (arith, ltb-false k day p, z) in
        not-before (k * slots_of m) (hour_of m) (day * slots_of m + s) (digits_lt after h)

other-run : (k days m day s : ℕ) → (k ≡ day → ⊥) → s < slots_of m → in_run (run_at (Some k) days m) (day * slots_of m + s) ≡ false
unfolding run_at
other-run k days m day s z h = go (ltb k days)
  where
    go : (b : Bool) → in_run (cond b (hour_from (k * slots_of m) (hour_of m)) no_run) (day * slots_of m + s) ≡ false
    go true = other-day k m day s z h
    go false = in-none _

-- an interval that has slots is one
slot-minutes : (m s : ℕ) → s < slots_of m → is_minutes m ≡ true
unfolding slots_of
slot-minutes m s h = go (is_minutes m) h
  where
    go : (b : Bool) → s < cond b (1440 / m) 0 → b ≡ true
    go true p = refl
    go false p = absurd (omega arith)

-- ---- The run is what is missing

-- the date of a log's day, fewer than 62 days after the start
module _ (start : Date) (day : ℕ) (d : Date) (e : days_later start day ≡ Ok d) where
  started : is_date start ≡ true
  unfolding days_later
  started = (chosen (is_date start) (date_on (day_number start + day)) (Err NotADate) e (λ p. let z : ◌≡◌ {A = ℕ} 0 1 = cc in omega arith)).0

  on-day : DateIs (day_number start + day) d
  on-day = days-later start day d e

  -- it is a March day exactly where it is that of the start's own year
  of-own-year : day_number start + day ≡ spring_day start.year → is_spring (night_of d) ≡ true
  of-own-year p =
      let s = sunday-last 3 (omega arith) (omega arith) start.year (ranges start started).year-below in
      let q : d ≡ sunday start.year 3 = same_number d (sunday start.year 3) on-day.valid s.valid (on-day.number ∙ p) in
      spring-is d (rw q s)

  of-no-other : day < 62 → (day_number start + day ≡ spring_day start.year → ⊥) → is_spring (night_of d) ≡ false
  of-no-other h z = go (is_spring (night_of d)) refl
    where
      same-year : IsLast 3 d → d.year ≡ start.year → ⊥
      same-year s y =
          let q : d ≡ sunday start.year 3 = (λ i. record { year = y i; month = s.month i; day = (s.day ∙ ap (λ (x : ℕ). last_sunday x 3) y) i }) in
          z (sym on-day.number ∙ ap day_number q)

      years : IsLast 3 d → (a : Bool) → ltb start.year d.year ≡ a → (b : Bool) → ltb d.year start.year ≡ b → ⊥
      years s true p b q =
          let far = years-apart start d started s.valid (ltb-true _ _ p) (omega (arith, s.month)) (late 3 (omega arith) (omega arith) d s) in
          omega (arith, far, on-day.number)
      years s false p true q =
          let back = years-ordered d start s.valid started (ltb-true _ _ q) in
          omega (arith, back, on-day.number)
      years s false p false q = same-year s (omega (arith, ltb-false start.year d.year p, ltb-false d.year start.year q))

      go : (b : Bool) → is_spring (night_of d) ≡ b → is_spring (night_of d) ≡ false
      go true p = absurd (years (spring-told d p) (ltb start.year d.year) refl (ltb d.year start.year) refl)
      go false p = p

-- of a log of at most 62 days, a day's slot is missing exactly where its cell is one of the run's
pub run-is-missing : (start : Date) (days minutes day slot : ℕ) (d : Date) → days ≤ 62 → day < days → slot < slots_of minutes → days_later start day ≡ Ok d
    → missing (night_of d) minutes slot ≡ in_run (missing_run start days minutes) (day * slots_of minutes + slot)
unfolding missing missing_run run_at
run-is-missing start days minutes day slot d most h s e = go (eqb (day_number start + day) (spring_day start.year)) refl
  where
    valid : is_date start ≡ true
    valid = started start day d e

    -- where it is another day
    elsewhere : (day_number start + day ≡ spring_day start.year → ⊥) → (b : Bool) → leb (day_number start) (spring_day start.year) ≡ b
        → false ≡ in_run (run_at (spring_ahead start) days minutes) (day * slots_of minutes + slot)
    elsewhere z true p =
        let l = leb-true (day_number start) (spring_day start.year) p in
        rw (ahead_in start valid l)
        (sym (other-run (spring_day start.year - day_number start) days minutes day slot (λ q. z (omega arith)) s))
    elsewhere z false p = rw (ahead_past start (leb-false _ _ p)) (sym (in-none _))

    go : (b : Bool) → eqb (day_number start + day) (spring_day start.year) ≡ b
        → (is_spring (night_of d) && in_hour minutes slot) ≡ in_run (run_at (spring_ahead start) days minutes) (day * slots_of minutes + slot)
    go true p =
        let q : day_number start + day ≡ spring_day start.year = eqb-true _ _ p in
        let n : spring_day start.year - day_number start ≡ day = omega (arith, q) in
        rw (ahead_in start valid (omega (arith, q)), n, lt-ltb day days h, of-own-year start day d e q)
        (hour-slots minutes slot (slot-minutes minutes slot s) ∙ sym (in-hour (day * slots_of minutes) (hour_of minutes) slot))
    go false p =
        let z = eqb-false (day_number start + day) (spring_day start.year) p in
        rw (of-no-other start day d e (omega arith) z) (elsewhere z (leb (day_number start) (spring_day start.year)) refl)

-- the same by a cell's index
pub run-at-cell : (start : Date) (days minutes cell : ℕ) → is_date start ≡ true → days ≤ 62 → day_number start + (days - 1) < century_days
    → cell < days * slots_of minutes
    → missing (night_of (date_of (day_number start + cell / slots_of minutes))) minutes (cell % slots_of minutes) ≡ in_run (missing_run start days minutes) cell
unfolding days_later date_on
run-at-cell start days minutes cell v most ends h = go (ltb 0 n) refl (ltb day days) refl
  where
    n : ℕ
    n = slots_of minutes

    day : ℕ
    day = cell / n

    go : (a : Bool) → ltb 0 n ≡ a → (b : Bool) → ltb day days ≡ b
        → missing (night_of (date_of (day_number start + day))) minutes (cell % n) ≡ in_run (missing_run start days minutes) cell
    go true p true q =
        let d = ltb-true day days q in
        let e : days_later start day ≡ Ok (date_of (day_number start + day)) = rw (v, lt-ltb (day_number start + day) century_days (omega arith)) in
        run-is-missing start days minutes day (cell % n) (date_of (day_number start + day)) most d (mod-lt cell (ltb-true 0 n p)) e
        ∙ ap (in_run (missing_run start days minutes)) (div-add-mod' cell n)
    go true p false q = absurd (omega (arith, h, mul-le-mul_right n (ltb-false day days q), div-mul-le_self cell n))
    go false p b q = let z : n ≡ 0 = omega (arith, ltb-false 0 n p) in let k : cell < days * 0 = rw z at h in absurd (omega arith)

-- ---- Where the run lies

-- its cells are the log's
pub run-in-log : (start : Date) (days minutes : ℕ) → (missing_run start days minutes).first + (missing_run start days minutes).count ≤ days * slots_of minutes
unfolding missing_run run_at
run-in-log start days minutes = go (spring_ahead start)
  where
    below : (k : ℕ) (b : Bool) → ltb k days ≡ b
        → (cond b (hour_from (k * slots_of minutes) (hour_of minutes)) no_run).first + (cond b (hour_from (k * slots_of minutes) (hour_of minutes)) no_run).count ≤ days * slots_of minutes
    below k true p = omega (arith, next_row k days (slots_of minutes) (ltb-true k days p), whole-hours minutes)
    below k false p = omega arith

    go : (a : Option ℕ) → (run_at a days minutes).first + (run_at a days minutes).count ≤ days * slots_of minutes
    go (Some k) = below k (ltb k days) refl
    go None = omega arith
