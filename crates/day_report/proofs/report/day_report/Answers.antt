-- `day_report` meets its contract: its four tests are those of `report_of`, in its order, and a day of the log has its row among as many figures (`has-day`).
use Rattle.std.specs.Prelude.{Ok}
use Rattle.day_report.specs.Report.{report_of}
use Rattle.day_rows.proofs.RowsLaws.{has-day, copied-row}
use Rattle.refusal.specs.Outcome.{outcome}
use borrow.Author.Tests.{le-leb, lt-ltb}
use lib.ListN.{length}
use mathlib.Core.Path.{sym, ap, subst, ◌∙◌}
use Prim.Native.Nat.{ℕ, ◌≤◌}
use Rattle.day_report.proofs.report.day_report.Goals as goal

pub returns : goal.returns
unfolding report_of
returns c =
    let at-args = c.args in
    let at-figures-of = c.figures_of in
    let at-if2 = c.if-figures-figures_of in
    let at-if1 = c.if-row-lt-REPORT_NUMBERS in
    let at-sound = c.sound in
    let at-if3 = c.if-h-day in
    let figs = at-args.figures.now in
    let day = at-args.day in
    let enough = le-leb _ _ (subst (λ (n : ℕ). n ≤ length figs) at-figures-of.ensures at-if2.false) in
    simp (le-leb _ _ at-if1.false, sym at-sound.ensures ∙ c.in-Some.is, enough, lt-ltb _ _ at-if3.false)
    (ap (outcome (Ok tt)) (c.copy_day.ensures ∙ copied-row figs day at-args.row.now (has-day _ figs day enough at-if3.false)))
