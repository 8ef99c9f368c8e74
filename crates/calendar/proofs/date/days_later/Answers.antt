-- `days_later` meets its contract: a date's day number is the days before its month and the days before it in the month, and `carried` adds n.
use mathlib.Core.Path.{sym, ◌∙◌, ap}
use native.Mathlib.Nat.{add_assoc}
use Rattle.calendar.specs.Date.{date_on, days_later, day_number}
use Rattle.calendar.proofs.DateLaws.{ranges}
use Rattle.calendar.proofs.date.days_later.Goals as goal

pub overflow_sub-d : goal.overflow_sub-d
overflow_sub-d c =
    let args = c.args in
    let is-date = c.is_date in
    (ranges args.d (sym is-date.ensures ∙ c.if-is_date.true)).day-from

pub returns-then-is_date : goal.returns-then-is_date
unfolding days_later day_number
returns-then-is_date c =
    let is-date = c.is_date in
    let if1 = c.if-is_date in
    rw (sym is-date.ensures, if1.true) (c.carried.ensures ∙ rw c.month_number.ensures (ap date_on (sym (add_assoc _ _ _))))
