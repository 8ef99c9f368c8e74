-- `put_strip` meets its contract: its tests are those of `strip_text`, in its order; what the walk says of the cells is the case of `strip_dated` (`met-none`, `met-bad`).
use mathlib.Core.Path.{sym, ◌∙◌}
use Rattle.day_rows.proofs.TalliesLaws.{met-none, met-bad}
use Rattle.day_report.specs.Strip.{strip_dated, strip_on, strip_text}
use Rattle.day_report.proofs.strip.put_strip.Goals as goal

pub returns-in_default : goal.returns-in_default
unfolding strip_text
returns-in_default c = simp (sym c.sound.ensures ∙ c.in_default.is)

pub returns-in_default-date_of : goal.returns-in_default-date_of
unfolding strip_text strip_on
returns-in_default-date_of c = simp (sym c.sound.ensures ∙ c.in-Some.is, sym c.date_of.ensures ∙ c.in_default-date_of.is)

pub returns-in_default-tally : goal.returns-in_default-tally
unfolding strip_text strip_on strip_dated
returns-in_default-tally c =
    simp (
      sym c.sound.ensures ∙ c.in-Some.is,
      sym c.date_of.ensures ∙ c.in-Some-date_of.is,
      met-bad _ _ (sym c.tally.ensures ∙ c.in_default-tally.is),
    )

pub returns : goal.returns
unfolding strip_text strip_on strip_dated
returns c =
    simp (
      sym c.sound.ensures ∙ c.in-Some.is,
      sym c.date_of.ensures ∙ c.in-Some-date_of.is,
      met-none _ _ _ (sym c.tally.ensures ∙ c.in-Some-tally.is),
    )
    c.put_marked.ensures
