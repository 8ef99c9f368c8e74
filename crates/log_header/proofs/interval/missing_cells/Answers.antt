-- `missing_cells` meets its contract: none where the seasons are not followed, else the run of the leaf.
use borrow.Author.Tests.{eq-eqb, ne_eqb}
use Rattle.log_header.specs.Interval.{missing_cells}
use Rattle.log_header.proofs.interval.missing_cells.Goals as goal

pub returns-then-h-ne-SEASONS_FOLLOWED : goal.returns-then-h-ne-SEASONS_FOLLOWED
unfolding missing_cells
returns-then-h-ne-SEASONS_FOLLOWED c = simp (ne_eqb _ _ c.if-h-ne-SEASONS_FOLLOWED.true)

pub returns : goal.returns
unfolding missing_cells
returns c = simp (eq-eqb _ _ c.if-h-ne-SEASONS_FOLLOWED.false, c.missing_run.ensures)
