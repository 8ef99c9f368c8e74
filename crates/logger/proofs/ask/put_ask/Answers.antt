-- Each way out tells what the checks before it found; an interval of a sound log gives what the frame needs.
use mathlib.Core.Path.{sym, ◌∙◌}
use Rattle.log_header.proofs.IntervalLaws.{in-log}
use Rattle.log_header.proofs.HeaderLaws.{sound-log}
use Rattle.logger.proofs.ask.put_ask.Goals as goal

pub put_slot-requires : goal.put_slot-requires
put_slot-requires c =
    let interval-of = c.interval_of in
    let if1 = c.if-out-lt-READ_BYTES in
    let sound = sym c.sound.ensures ∙ c.in-Some.is in
    let w = in-log _ _ _ _ (sym interval-of.ensures ∙ c.in-Some-interval_of.is) in
    record { h_value = (sound-log _ _ sound).ranges; day_lt_days = w.day-below; slot_bound = w.slot-below; read_size_in_bounds = if1.false }
