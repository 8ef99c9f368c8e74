-- `before_march` meets its contract: the months of January and February end to end (`from-january`, `from-february`), and none in March.
use Rattle.season_nights.proofs.RunLaws.{from-february, from-january, at-most-31}
use mathlib.Core.Path.{◌≡◌}
use native.Mathlib.Omega.{arith}
use Rattle.season_nights.proofs.run.before_march.Goals as goal

pub returns-then-month-eq-MARCH : goal.returns-then-month-eq-MARCH
returns-then-month-eq-MARCH c = rw c.if-month-eq-MARCH.true (omega arith)

pub returns-then-month-eq-FEBRUARY : goal.returns-then-month-eq-FEBRUARY
returns-then-month-eq-FEBRUARY c =
    let at-args = c.args in
    rw (c.if-month-eq-FEBRUARY.true, c.days_in_month-february.ensures) (from-february at-args.year)

pub overflow_add-result : goal.overflow_add-result
overflow_add-result c =
    let y = c.args.year in
    let f = at-most-31 y 2 c.requires.year_bound (omega arith) (omega arith) in
    let j = at-most-31 y 1 c.requires.year_bound (omega arith) (omega arith) in
    omega (arith, f, j, c.days_in_month-february.ensures, c.days_in_month.ensures)

pub returns : goal.returns
returns c =
    let if1 = c.if-month-eq-MARCH in
    let m : c.args.month ≡ 1 = omega (arith, if1.false, c.if-month-eq-FEBRUARY.false, c.requires.month_nonzero, c.requires.month_bound) in
    rw (m, c.days_in_month-february.ensures, c.days_in_month.ensures) (from-january c.args.year)
