-- A date is switchable exactly where the calendar has the hour before it and the hour after it.
use Rattle.std.specs.Result.{is_ok}
use Rattle.calendar.specs.Time.{seconds_earlier}
use Rattle.meter_clock.proofs.SecondLaws.{hours-ok}
use mathlib.Core.Bool.{true, false}
use mathlib.Core.Path.{◌≡◌, sym, ap, ◌∙◌}
use Rattle.meter_clock.proofs.season.is_switchable.Goals as goal

pub returns-then-is_ok : goal.returns-then-is_ok
returns-then-is_ok c =
    let t = c.args.t in
    let earlier : is_ok (seconds_earlier t 3600) ≡ true = ap is_ok (sym c.hour_earlier.ensures) ∙ sym c.is_ok.ensures.value ∙ c.if-is_ok.true in
    c.is_ok-then-is_ok.ensures.value ∙ ap is_ok c.hour_later.ensures ∙ (rw earlier at (hours-ok t))

pub returns-else-is_ok : goal.returns-else-is_ok
returns-else-is_ok c =
    let t = c.args.t in
    let earlier : is_ok (seconds_earlier t 3600) ≡ false = ap is_ok (sym c.hour_earlier.ensures) ∙ sym c.is_ok.ensures.value ∙ c.if-is_ok.false in
    c.if-is_ok.false ∙ (rw earlier at (hours-ok t))
