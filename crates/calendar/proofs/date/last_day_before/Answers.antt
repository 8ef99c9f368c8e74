-- `last_day_before` meets its contract: the day before the first is the last of the month before (`back-over-month`); the first month has none.
use Rattle.std.specs.Prelude.{Ok}
use Prim.Native.Nat.{◌-◌}
use mathlib.Core.Path.{sym, ◌∙◌, ap}
use native.Mathlib.Omega.{arith}
use Rattle.calendar.proofs.DateLaws.{length-range, back-over-month, back-past-start}
use Rattle.calendar.proofs.date.last_day_before.Goals as goal

pub returns-then-month-eq0 : goal.returns-then-month-eq0
returns-then-month-eq0 c = rw (c.if-month-eq0.true, back-past-start)

pub overflow_sub-last : goal.overflow_sub-last
overflow_sub-last c = let l = length-range (c.args.month - 1) (omega arith) in omega arith

pub date_at-requires : goal.date_at-requires
date_at-requires c = let l = length-range (c.args.month - 1) (omega arith) in omega arith

pub returns : goal.returns
returns c = ap Ok c.date_at.ensures ∙ rw c.length_of-last.ensures (sym (back-over-month c.args.month c.requires c.if-month-eq0.false))
