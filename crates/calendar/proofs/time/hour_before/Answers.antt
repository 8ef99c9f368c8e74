-- `hour_before` meets its contract: 3,600 seconds back is the hour before, or from 0 o'clock the day before at 23 with minute and second kept.
use Prim.Native.Nat.{◌-◌}
use mathlib.Core.Path.{sym, ◌∙◌, ap}
use native.Mathlib.Omega.{arith}
use Rattle.calendar.specs.Steps.{on_day}
use Rattle.calendar.proofs.TimeLaws.{time-ranges, earlier-that-day, earlier-day-before}
use Rattle.calendar.proofs.time.hour_before.Goals as goal

pub returns-then-t-gt0 : goal.returns-then-t-gt0
returns-then-t-gt0 c = let t = c.args.t in let r = time-ranges t c.requires in
    sym (earlier-that-day t 3600 (t.hour - 1) t.minute t.second c.requires (omega arith) r.minute-below r.second_below (omega arith))

pub returns : goal.returns
returns c = let t = c.args.t in let r = time-ranges t c.requires in
    c.on_day.ensures ∙ ap (λ d. on_day d 23 t.minute t.second) c.previous_day.ensures
    ∙ sym (earlier-day-before t 3600 23 t.minute t.second c.requires (omega arith) r.minute-below r.second_below (omega arith))
