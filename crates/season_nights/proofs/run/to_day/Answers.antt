-- `to_day` meets its contract: day numbers are compared by their distance from the first of the date's month (`sunday-ahead`, `sunday-past`).
use Rattle.season_nights.proofs.RunLaws.{at-most-31, at-most-62, of-march, sunday-told, later-month}
use Rattle.calendar.proofs.DateLaws.{ranges}
use mathlib.Core.Path.{sym}
use native.Mathlib.Omega.{arith}
use Rattle.season_nights.proofs.run.to_day.Goals as goal

pub returns-then-date-gt-MARCH : goal.returns-then-date-gt-MARCH
returns-then-date-gt-MARCH c = sym (later-month c.args.date c.requires.date_value c.if-date-gt-MARCH.true)

pub before_march-requires : goal.before_march-requires
before_march-requires c =
    let r = ranges c.args.date c.requires.date_value in
    record { year_bound = r.year-below; month_nonzero = r.month-from; month_bound = omega (arith, c.if-date-gt-MARCH.false) }

pub overflow_add-before_march : goal.overflow_add-before_march
overflow_add-before_march c =
    let y = (ranges c.args.date c.requires.date_value).year-below in
    let m = at-most-62 c.args.date c.before_march.result c.requires.date_value c.before_march.ensures in
    omega (arith, m, (of-march c.args.date.year y).to, at-most-31 c.args.date.year 3 y (omega arith) (omega arith), c.requires.sunday_value)

pub returns : goal.returns
returns c =
    let months = c.before_march in
    sunday-told c.args.date months.result c.requires.date_value months.ensures c.args.sunday c.requires.sunday_value _ c.checked_sub.ensures
