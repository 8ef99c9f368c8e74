-- `put_day` meets its contract: soundness and the number of figures are the cases of `day_text`, and what is copied of a day of the log is its row (`copied_on`).
use Rattle.std.specs.Prelude.{Option}
use Rattle.calendar.specs.declared.date.Date.{Date}
use Rattle.day_report.proofs.DayLaws.{copied_on}
use Rattle.day_report.specs.Day.{zeros, day_on_text, day_text}
use Rattle.day_rows.specs.Rows.{copied}
use borrow.Author.Tests.{le-leb}
use lib.ListN.{length}
use mathlib.Core.Path.{sym, ap, subst, ◌∙◌}
use Prim.Native.Nat.{ℕ, ◌≤◌}
use Rattle.day_report.proofs.day.put_day.Goals as goal

pub returns : goal.returns
unfolding day_text
returns c =
    let at-args = c.args in
    let at-figures-of = c.figures_of in
    let at-if1 = c.if-figures-figures_of in
    let at-sound = c.sound in
    let at-date-of = c.date_of in
    let figs = at-args.figures.now in
    let enough = le-leb _ _ (subst (λ (n : ℕ). n ≤ length figs) at-figures-of.ensures at-if1.false) in
    simp (sym at-sound.ensures ∙ c.in-Some.is, enough)
    (c.put_day_on.ensures
    ∙ ap (λ (a : Option Date). day_on_text a (copied figs at-args.day zeros) at-args.out.now) at-date-of.ensures
    ∙ copied_on _ figs at-args.day at-args.out.now enough)
