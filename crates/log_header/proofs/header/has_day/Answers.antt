-- `has_day` meets its contract: before the last year so few days never end the century (`before_last`); else a date so many days later exists exactly
-- where the start is a date and the century has that day (`has-date`).
use Rattle.std.specs.Prelude.{is_ok}
use mathlib.Core.Path.{ap, ◌∙◌}
use Rattle.log_header.proofs.HeaderLaws.{has-date, before_last}
use borrow.Author.Rules.{rules}
use Rattle.log_header.proofs.header.has_day.Goals as goal

pub returns-then-start-lt-LAST_YEAR : goal.returns-then-start-lt-LAST_YEAR
returns-then-start-lt-LAST_YEAR c =
    let args = c.args in
    c.is_date.ensures ∙ before_last args.start args.n c.if-start-lt-LAST_YEAR.true (search rules)

pub returns : goal.returns
returns c = c.is_ok.ensures.value ∙ ap is_ok c.days_later.ensures ∙ has-date c.args.start c.args.n
