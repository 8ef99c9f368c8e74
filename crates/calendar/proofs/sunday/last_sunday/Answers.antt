-- `last_sunday` meets its contract: the month's last day falls on the weekday of 2000, moved on by years and leap days (`by-year`).
use Rattle.std.specs.Prelude.{Ok, Result}
use Rattle.calendar.specs.declared.date.Date.{Date}
use Rattle.calendar.specs.declared.date.DateError.{DateError}
use Prim.Native.Nat.{ℕ}
use native.Mathlib.Omega.{arith}
use mathlib.Core.Path.{◌≡◌}
use borrow.Author.Tests.{lt-ltb, le-ltb}
use Rattle.calendar.specs.Sunday.{last_sunday_of}
use Rattle.calendar.proofs.SundayLaws.{by-year}
use Rattle.calendar.proofs.sunday.last_sunday.Goals as goal

-- a date by its day
on : {y m d e : ℕ} → d ≡ e → ◌≡◌ {A = Result Date DateError} (Ok (record { year = y; month = m; day = d })) (Ok (record { year = y; month = m; day = e }))
on {y} {m} p = λ i. Ok (record { year = y; month = m; day = p i })

pub returns-then-year-ge-YEARS : goal.returns-then-year-ge-YEARS
unfolding last_sunday_of
returns-then-year-ge-YEARS c = rw (le-ltb _ 100 c.if-year-ge-YEARS.true)

pub returns : goal.returns
unfolding last_sunday_of
returns c = let a = c.args in
    let e = by-year a.year a.month (omega arith) c.requires.lt_month c.requires.month_value in
    rw (lt-ltb a.year 100 (omega arith)) (on (omega (arith, c.requires.first_value, e)))
