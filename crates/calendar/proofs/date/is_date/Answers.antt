-- `is_date` meets its contract: a day of at least 1 within its month's days is a date, since a month that does not exist has none (`day-of-month`).
use mathlib.Core.Bool.{and-false}
use mathlib.Core.Path.{◌∙◌, ap}
use lib.Dec.{leb}
use borrow.Author.Tests.{lt-leb}
use Rattle.calendar.specs.Date.{is_date}
use Rattle.calendar.proofs.DateLaws.{day-of-month}
use Rattle.calendar.proofs.date.is_date.Goals as goal

pub returns-then-d-ge1 : goal.returns-then-d-ge1
returns-then-d-ge1 c = ap (leb c.args.d.day) c.days_in_month.ensures ∙ day-of-month c.args.d c.if-d-ge1.true

pub returns-else-d-ge1 : goal.returns-else-d-ge1
unfolding is_date
returns-else-d-ge1 c = simp (lt-leb _ _ c.if-d-ge1.false, and-false)
