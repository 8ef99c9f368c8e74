-- `second_after` meets its contract: one second on stays in the day, or is as many seconds as an hour from the hour's start (`same_sum`).
use Prim.Native.Nat.{◌+◌}
use mathlib.Core.Path.{sym, ◌∙◌}
use native.Mathlib.Omega.{arith}
use Rattle.calendar.specs.Time.{second_number}
use Rattle.calendar.proofs.TimeLaws.{time-ranges, hour-began, later-that-day, same_sum}
use Rattle.calendar.proofs.time.second_after.Goals as goal

pub returns-then-t-lt-LAST_SECOND : goal.returns-then-t-lt-LAST_SECOND
returns-then-t-lt-LAST_SECOND c = let t = c.args.t in let r = time-ranges t c.requires in
    sym (later-that-day t 1 t.hour t.minute (t.second + 1) c.requires r.hour-below r.minute-below (omega arith) (omega arith))

pub returns-then-t-lt-LAST_MINUTE : goal.returns-then-t-lt-LAST_MINUTE
returns-then-t-lt-LAST_MINUTE c = let t = c.args.t in let r = time-ranges t c.requires in
    sym (later-that-day t 1 t.hour (t.minute + 1) 0 c.requires r.hour-below (omega arith) (omega arith) (omega arith))

pub hour_after-requires : goal.hour_after-requires
hour_after-requires c = hour-began c.args.t c.requires

pub returns : goal.returns
unfolding second_number
returns c = let t = c.args.t in let r = time-ranges t c.requires in
    c.hour_after.ensures ∙ sym (same_sum t _ 1 3600 c.requires (hour-began t c.requires) (omega arith))
