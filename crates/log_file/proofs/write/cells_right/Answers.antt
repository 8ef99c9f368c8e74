-- `cells_right` meets its contract: all cells are walked, and then those whose slots do not exist; these are one run (`right-by-run`).
use Rattle.log_file.proofs.WalkLaws.{good_from, right-by-run, wrong-by-walk}
use Rattle.energy_log.specs.Image.{cell_at, lapses_at}
use mathlib.Core.Path.{sym, ap, ◌∙◌}
use Prim.Native.Nat.{ℕ}
use Rattle.log_file.proofs.write.cells_right.Goals as goal

pub returns-then-cells_good : goal.returns-then-cells_good
returns-then-cells_good c =
    let f = c.args.log.now in
    let good = ap (λ (k : ℕ). good_from (cell_at f) 0 k) (sym c.cells_of.ensures) ∙ sym c.cells_good.ensures ∙ c.if-cells_good.true in
    c.missing_fresh.ensures ∙ sym (right-by-run c.args.h (cell_at f) (lapses_at f) c.requires good)

pub returns-else-cells_good : goal.returns-else-cells_good
returns-else-cells_good c =
    let f = c.args.log.now in
    let bad = ap (λ (k : ℕ). good_from (cell_at f) 0 k) (sym c.cells_of.ensures) ∙ sym c.cells_good.ensures ∙ c.if-cells_good.false in
    c.if-cells_good.false ∙ sym (wrong-by-walk c.args.h (cell_at f) (lapses_at f) bad)
