-- What follows from the definition of intervals: their indices are those of the log's cells, each of one interval, and the cells of slots that do
-- not exist are one run.
use Rattle.std.specs.Prelude.{Err, None, Ok, Option, Result, Some}
use Rattle.calendar.specs.declared.date.Date.{Date}
use Rattle.calendar.specs.declared.date.DateError.{DateError}
use Prim.Native.Nat.{ℕ, ◌+◌, ◌*◌, ◌/◌, ◌%◌, ◌<◌}
use native.Mathlib.Nat.{mul-le-mul_right, div-mul-le_self}
use native.Mathlib.Omega.{arith}
use mathlib.Core.Path.{◌≡◌, refl, sym, ap, ◌∙◌}
use mathlib.Core.Bool.{Bool, true, false, cond, not, ◌&&◌}
use lib.Dec.{ltb}
use lib.Arith.{digits_lt, digits_div, digits_mod}
use borrow.Author.Tests.{ltb-true, ltb-false, lt-ltb}
use Rattle.test_laws.proofs.Test.{both, chosen}
use Rattle.calendar.specs.Date.{is_date, day_number, date_of, date_on, days_later, century_days}
use Rattle.calendar.specs.declared.date.DateError.TheVariants.{NotADate, OutOfRange}
use Rattle.slots.specs.Day.{slots_of}
use Rattle.season_nights.specs.Night.{missing}
use Rattle.season_nights.specs.Run.{missing_run, no_run, in_run}
use Rattle.season_nights.specs.declared.night.Night.TheVariants.{Plain}
use Rattle.season_nights.proofs.RunLaws.{run-at-cell, in-none}
use Rattle.log_header.specs.Header.{cells_of, is_header}
use Rattle.log_header.proofs.HeaderLaws.{HeaderRanges, header-ranges}
use Rattle.log_header.specs.Interval.{interval_of, if_at, day_date, follows, night_in, night_on, exists, exists_at, comes_twice, comes_twice_at, missing_cells}
use Rattle.log_header.specs.declared.header.Header.{Header}

-- what holds of an interval that is in the log
pub record InLog (h : Header) (d s i : ℕ) : Type 0 where
  pub day-below : d < h.days
  pub slot-below : s < slots_of h.minutes
  pub there : exists h d s ≡ true
  pub index : d * slots_of h.minutes + s ≡ i

-- an interval outside the log has no index
pub outside≢at : (i : ℕ) → None ≡ Some i → ⊥
outside≢at i p = let z : ◌≡◌ {A = ℕ} 0 1 = cc in omega arith

-- all this holds of an interval that has an index
pub in-log : (h : Header) (d s i : ℕ) → interval_of h d s ≡ Some i → InLog h d s i
unfolding interval_of
in-log h d s i p =
    let a = chosen (ltb d h.days && ltb s (slots_of h.minutes) && exists h d s) (Some (d * slots_of h.minutes + s)) None p (outside≢at i) in
    let t = both _ _ a.0 in
    let b = both _ _ t.0 in
    let e : d * slots_of h.minutes + s ≡ i = cc a.1 in
    record { day-below = ltb-true _ _ b.0; slot-below = ltb-true _ _ b.1; there = t.1; index = e }

-- a slot of the log's days that exists has its index
pub interval-at : (h : Header) (d s : ℕ) → d < h.days → s < slots_of h.minutes → exists h d s ≡ true
    → interval_of h d s ≡ Some (d * slots_of h.minutes + s)
unfolding interval_of
interval-at h d s p q e = simp (lt-ltb _ _ p, lt-ltb _ _ q, e)

-- it has a cell
pub interval-below : (h : Header) (d s i : ℕ) → interval_of h d s ≡ Some i → i < cells_of h
unfolding cells_of
interval-below h d s i p =
    let w = in-log h d s i p in
    rw (sym w.index) (digits_lt w.day-below w.slot-below)

-- ---- slots that do not exist

-- by day and slot, or by the cell's index: a slot exists or not
pub exists-index : (h : Header) (d s : ℕ) → s < slots_of h.minutes → exists_at h (d * slots_of h.minutes + s) ≡ exists h d s
unfolding exists_at
exists-index h d s l = rw (digits_div d l, digits_mod d l)

-- and so for whether it comes twice
pub twice-index : (h : Header) (d s : ℕ) → s < slots_of h.minutes → comes_twice_at h (d * slots_of h.minutes + s) ≡ comes_twice h d s
unfolding comes_twice_at
twice-index h d s l = rw (digits_div d l, digits_mod d l)

-- an interval that is in the log exists
pub interval-exists : (h : Header) (d s i : ℕ) → interval_of h d s ≡ Some i → exists_at h i ≡ true
interval-exists h d s i p =
    let w = in-log h d s i p in
    rw (sym w.index) (exists-index h d s w.slot-below ∙ w.there)

-- the cells whose slots do not exist are those of one run
pub run-exists : (h : Header) (i : ℕ) → is_header h ≡ true → i < cells_of h → exists_at h i ≡ not (in_run (missing_cells h) i)
unfolding exists_at exists night_on missing_cells days_later date_on cells_of missing
run-exists h i e l = go (follows h)
  where
    n : ℕ
    n = slots_of h.minutes

    r : HeaderRanges h
    r = header-ranges h e

    day : i / n < h.days
    day = below (ltb (i / n) h.days) refl
      where
        below : (b : Bool) → ltb (i / n) h.days ≡ b → i / n < h.days
        below true p = ltb-true _ _ p
        below false p = absurd (omega (arith, l, mul-le-mul_right n (ltb-false (i / n) h.days p), div-mul-le_self i n))

    on : day_number h.start + i / n < century_days
    on = omega (arith, day, r.last-day)

    -- the calendar's answer for the cell's day
    dated : Result Date DateError
    dated =
        cond (is_date h.start)
        (cond (ltb (day_number h.start + i / n) century_days) (Ok (date_of (day_number h.start + i / n))) (Err OutOfRange))
        (Err NotADate)

    go : (b : Bool)
        → not (missing (cond b (night_in dated) Plain) h.minutes (i % n)) ≡ not (in_run (cond b (missing_run h.start h.days h.minutes) no_run) i)
    go true = rw (r.start, lt-ltb _ _ on) (ap not (run-at-cell h.start h.days h.minutes i r.start r.days-to r.last-day l))
    go false = rw (in-none i) refl

-- every day of a log has its date
pub day-on : (h : Header) (d : ℕ) → is_header h ≡ true → d < h.days → day_date h d ≡ Some (date_of (day_number h.start + d))
unfolding day_date days_later date_on
day-on h d e l =
    let r = header-ranges h e in
    let b : day_number h.start + d < century_days = omega (arith, r.last-day) in
    simp (lt-ltb _ _ l, r.start, lt-ltb _ _ b)

-- what holds of both values holds of the one that is chosen
pub by-at : {A : Type 0} (P : A → Type 0) (n : Option ℕ) {x : A} {f : ℕ → A}
    → (n ≡ None → P x) → ((i : ℕ) → n ≡ Some i → P (f i)) → P (if_at n x f)
by-at P None other k = other refl
by-at P (Some i) other k = k i refl
