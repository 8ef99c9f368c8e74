-- `hour_after` meets its contract: 3,600 seconds on is the next hour of the day, or after 23 o'clock the next day at 0 with minute and second kept.
use Prim.Native.Nat.{◌+◌}
use mathlib.Core.Path.{sym, ◌∙◌, ap}
use native.Mathlib.Omega.{arith}
use Rattle.calendar.specs.Steps.{on_day}
use Rattle.calendar.proofs.TimeLaws.{time-ranges, later-that-day, later-next-day}
use Rattle.calendar.proofs.time.hour_after.Goals as goal

pub returns-then-t-lt-LAST_HOUR : goal.returns-then-t-lt-LAST_HOUR
returns-then-t-lt-LAST_HOUR c = let t = c.args.t in let r = time-ranges t c.requires in
    sym (later-that-day t 3600 (t.hour + 1) t.minute t.second c.requires (omega arith) r.minute-below r.second_below (omega arith))

pub returns : goal.returns
returns c = let t = c.args.t in let r = time-ranges t c.requires in
    c.on_day.ensures ∙ ap (λ d. on_day d 0 t.minute t.second) c.next_day.ensures
    ∙ sym (later-next-day t 3600 0 t.minute t.second c.requires (omega arith) r.minute-below r.second_below (omega arith))
