-- `days_before` meets its contract: the loop keeps that `days` are those before month `at`; a century's days fit.
use mathlib.Core.Path.{refl}
use native.Mathlib.Omega.{arith}
use native.Mathlib.Numerals.{add-one}
use Rattle.calendar.specs.Count.{starts}
use Rattle.calendar.specs.Date.{length_of}
use Rattle.calendar.proofs.CountLaws.{starts-mono}
use Rattle.calendar.proofs.DateLaws.{length-range, century}
use Rattle.calendar.proofs.date.days_before.Goals as goal

pub loop-at-init : goal.loop-at-init
unfolding starts
loop-at-init c = refl

pub overflow_add-days : goal.overflow_add-days
overflow_add-days c =
    let loop = c.loop-at in
    let l = length-range loop.at (omega arith) in
    let m = starts-mono length_of loop.at 1200 (omega arith) in
    record { fits = omega (arith, loop.invariant, c.length_of-days.ensures, l.at_most, m, century) }

pub loop-at-preserved : goal.loop-at-preserved
unfolding starts
loop-at-preserved c = rw (add-one c.loop-at.at, c.length_of-days.ensures, c.loop-at.invariant)
