-- `kind_fits` meets its contract: a kind above the three fits no counts (`kind-above`), and each test is that of `kind_fits` for such counts.
use Rattle.log_cell.specs.Cell.{kind_fits}
use Rattle.log_cell.proofs.CellLaws.{kind-above}
use mathlib.Core.Path.{sym}
use Rattle.log_cell.proofs.cell.kind_fits.Goals as goal

pub returns-then-kind-gt-MEASURED : goal.returns-then-kind-gt-MEASURED
returns-then-kind-gt-MEASURED c = sym (kind-above _ _ c.if-kind-gt-MEASURED.true)

pub returns-then-none : goal.returns-then-none
unfolding kind_fits
returns-then-none c = simp c.if-none.true

pub returns : goal.returns
unfolding kind_fits
returns c = simp c.if-none.false
