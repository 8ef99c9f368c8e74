-- `day_before` meets its contract: past the first, the day before is in the month; on the first, the days before are those before the month.
use mathlib.Core.Path.{sym, ◌∙◌, ap}
use native.Mathlib.Omega.{arith}
use Rattle.calendar.specs.Date.{days_before, day_number, date_back}
use Rattle.calendar.proofs.DateLaws.{first-of-month, ranges, back-in-month}
use Rattle.calendar.proofs.date.day_before.Goals as goal

pub returns-then-d-gt1 : goal.returns-then-d-gt1
returns-then-d-gt1 c = sym (back-in-month c.args.d c.requires c.if-d-gt1.true)

pub last_day_before-requires : goal.last_day_before-requires
last_day_before-requires c = let r = ranges c.args.d c.requires in omega arith

pub returns : goal.returns
unfolding day_number
returns c =
    c.last_day_before.ensures ∙ ap (λ n. date_back n 1) (ap days_before c.month_number.ensures ∙ first-of-month c.args.d c.requires c.if-d-gt1.false)
