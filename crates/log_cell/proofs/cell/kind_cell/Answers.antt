-- `kind_cell` meets its contract: whether the kind fits its counts is `kind_cell`'s one test, and a kind that fits names a cell (`fits-named`).
use Rattle.log_cell.specs.Cell.{kind_fits, kind_cell}
use Rattle.log_cell.proofs.CellLaws.{fits-named}
use mathlib.Core.Path.{sym, ap, ◌∙◌}
use Rattle.log_cell.proofs.cell.kind_cell.Goals as goal

pub returns-then-kind_fits : goal.returns-then-kind_fits
unfolding kind_cell
returns-then-kind_fits c =
    let at-args = c.args in
    let at-no-counts = c.no_counts in
    let fits = ap (kind_fits at-args.kind) (sym at-no-counts.ensures) ∙ sym c.kind_fits.ensures ∙ c.if-kind_fits.true in
    simp (fits) (c.cell_by.ensures ∙ fits-named _ _ _ _ _ _ fits)

pub returns : goal.returns
unfolding kind_cell
returns c =
    let at-args = c.args in
    simp (ap (kind_fits at-args.kind) (sym c.no_counts.ensures) ∙ sym c.kind_fits.ensures ∙ c.if-kind_fits.false)
