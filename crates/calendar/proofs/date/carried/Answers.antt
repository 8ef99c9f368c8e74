-- `carried` meets its contract: the loop keeps that the days before month `at` and those left are the days asked for; it ends as the months run out.
use Rattle.std.specs.Prelude.{Ok}
use mathlib.Core.Path.{sym, ◌∙◌, ap}
use native.Mathlib.Omega.{arith}
use Rattle.calendar.specs.Date.{date_on}
use Rattle.calendar.proofs.DateLaws.{length-range, date-found, month-carried, date-past}
use Rattle.calendar.proofs.date.carried.Goals as goal

pub date_at-requires-clause-days_bound : goal.date_at-requires-clause-days_bound
date_at-requires-clause-days_bound c =
    let l = length-range c.loop-at.at c.loop-at-test.true in
    omega arith

pub returns-then-left-length : goal.returns-then-left-length
returns-then-left-length c =
    ap Ok c.date_at.ensures ∙ sym (date-found c.loop-at.at c.loop-at.left c.loop-at-test.true (omega arith)) ∙ ap date_on c.loop-at.invariant

pub loop-at-preserved : goal.loop-at-preserved
loop-at-preserved c = rw c.length_of-length.ensures (month-carried c.loop-at.at c.loop-at.left (omega arith) ∙ c.loop-at.invariant)

pub returns : goal.returns
returns c = sym (date-past c.loop-at.at c.loop-at.left c.loop-at-test.false) ∙ ap date_on c.loop-at.invariant
