-- `days_in_month` meets its contract: no month outside the calendar has days (`no-month`); inside, 31 and 30 take turns (`turns`) but for February.
use mathlib.Core.Path.{◌∙◌, sym, ap}
use native.Mathlib.Omega.{arith}
use Rattle.calendar.specs.Date.{days_in_month}
use Rattle.calendar.proofs.DateLaws.{no-month, turns}
use Rattle.calendar.proofs.date.days_in_month.Goals as goal

pub returns-then-year-ge-YEARS : goal.returns-then-year-ge-YEARS
returns-then-year-ge-YEARS c = sym (no-month c.args.year c.args.month (λ h. omega arith))

pub returns-then-month-eq-FEBRUARY : goal.returns-then-month-eq-FEBRUARY
returns-then-month-eq-FEBRUARY c =
    let args = c.args in
    c.february.ensures ∙ ap (days_in_month args.year) (sym c.if-month-eq-FEBRUARY.true)

pub returns : goal.returns
returns c =
    sym (turns c.args.year c.args.month (record { year-below = omega arith; month-from = omega arith; month-to = omega arith }) c.if-month-eq-FEBRUARY.false)
