-- `day_number` meets its contract: the days before a date's month and those before it in the month are its number, which is below a century's days.
use Rattle.calendar.proofs.DateLaws.{ranges, number-below}
use Rattle.calendar.specs.Date.{days_before, day_number}
use native.Mathlib.Omega.{arith}
use mathlib.Core.Path.{sym, ◌∙◌, ap}
use Rattle.calendar.proofs.date.day_number.Goals as goal

pub days_before-requires : goal.days_before-requires
days_before-requires c =
    let d = c.args.d in
    let r = ranges d (sym c.is_date.ensures ∙ c.if-is_date.true) in
    omega (arith, c.month_number.ensures, r.year-below, r.month-to)

pub overflow_sub-result : goal.overflow_sub-result
overflow_sub-result c =
    (ranges c.args.d (sym c.is_date.ensures ∙ c.if-is_date.true)).day-from

pub overflow_add-result : goal.overflow_add-result
unfolding day_number
overflow_add-result c =
    let sum = c.days_before.ensures ∙ ap days_before c.month_number.ensures in
    let d = c.args.d in
    let below = number-below d (sym c.is_date.ensures ∙ c.if-is_date.true) in
    omega (arith, sum, below)
