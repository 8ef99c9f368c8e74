-- `spring_ahead` meets its contract: what is no date has none ahead, and a date's year has its Sunday (`sunday-day`, `has-sunday`).
use mathlib.Core.Path.{sym, ◌∙◌}
use Rattle.season_nights.proofs.RunLaws.{sunday-day, has-sunday}
use Rattle.season_nights.proofs.run.spring_ahead.Goals as goal

pub returns-in_default : goal.returns-in_default
returns-in_default c =
    let valid = sym c.is_date.ensures ∙ c.if-not-is_date.false in
    absurd (c.in_default.not-Ok _ (c.last_sunday_of_march.ensures ∙ has-sunday c.args.date valid))

pub to_day-requires-clause-sunday_value : goal.to_day-requires-clause-sunday_value
to_day-requires-clause-sunday_value c =
    let valid = sym c.is_date.ensures ∙ c.if-not-is_date.false in
    sunday-day c.args.date _ valid (sym c.last_sunday_of_march.ensures ∙ c.in-Ok.is)
