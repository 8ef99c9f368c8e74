-- `put_time` meets its contract: clock, season and both dates, put one behind the other, are `time_bytes` (`onward`); past the end nothing is written.
use mathlib.Core.Path.{refl, sym}
use mathlib.Core.List.{[], ◌∷◌}
use native.Mathlib.Omega.{arith}
use Rattle.meter_record_bytes.specs.Time.{time_bytes, switch_bytes, season_byte}
use Rattle.wire_values.specs.Clock.{date_time_bytes}
use Rattle.byte_numbers.proofs.PlaceLaws.{onward, written-past}
use Rattle.meter_record_bytes.proofs.time.put_time.Goals as goal

pub returns-then-at-out : goal.returns-then-at-out
unfolding time_bytes switch_bytes date_time_bytes
returns-then-at-out c =
    let put-date-time = c.put_date_time in
    let season-byte = c.season_byte in
    let put_byte = c.put_byte in
    let put-switch = c.put_switch in
    let t = c.args.t in
    let to-season = onward _ _ _ _ _ (date_time_bytes t.clock) (season_byte t.season ∷ []) put-date-time.ensures (rw season-byte.ensures at put_byte.ensures) refl in
    let to-summer = onward _ _ _ _ _ _ (switch_bytes t.summer) to-season put-switch.ensures (omega arith) in
    onward _ _ _ _ _ _ (switch_bytes t.winter) to-summer c.put_switch-then-at-out.ensures (omega arith)

pub returns-else-at-out : goal.returns-else-at-out
returns-else-at-out c = sym (written-past _ _ _ c.if-at-out.false)
