-- `fresh_log` meets its contract: with too few figures the header alone is looked at; else the log's own call answers, and where it made one the figures
-- come too (`with-figures`, `without-figures`).
use Rattle.std.specs.Prelude.{Err, Result}
use Rattle.energy_log.specs.declared.fresh.FreshError.{FreshError}
use lib.ListN.{length}
use Prim.Native.Nat.{ℕ, ◌<◌, ◌≤◌}
use borrow.Author.Tests.{lt-leb}
use Rattle.day_rows.specs.Rows.{figures_of}
use Rattle.day_rows.specs.Fresh.{fresh_with}
use Rattle.refusal.specs.Outcome.{outcome}
use native.Mathlib.Omega.{arith}
use Rattle.std.proofs.lemmas.Grind.{common_steps}
use mathlib.Core.Path.{◌≡◌, sym, ap, ◌∙◌}
use Rattle.day_rows.proofs.FreshLaws.{with-figures, without-figures, refusal-number, fresh-header}
use Rattle.day_rows.proofs.fresh.fresh_log.Goals as goal

pub returns-then-not-is_header : goal.returns-then-not-is_header
unfolding fresh_with
returns-then-not-is_header c = simp (sym c.is_header.ensures, c.if-not-is_header.true)

pub returns-then-figures-figures_of : goal.returns-then-figures-figures_of
unfolding fresh_with
returns-then-figures-figures_of c =
    let few : length c.args.figures.now < figures_of c.args.h = omega (arith, c.figures_of.ensures, c.if-figures-figures_of.true) in
    simp (sym c.is_header.ensures, c.if-not-is_header.false, lt-leb _ _ few)

pub fill_fresh-requires : goal.fill_fresh-requires
fill_fresh-requires c =
    let args = c.args in
    let made = sym (ap (λ (r : Result ℕ FreshError). outcome r c.fresh_log.new.out) c.in_ok-length.was) ∙ c.fresh_log.ensures in
    (fresh-header args.h args.out.now _ _ made, omega (arith, c.figures_of.ensures, c.if-figures-figures_of.false))

pub returns-in_err-length : goal.returns-in_err-length
returns-in_err-length c =
    let args = c.args in
    let many : figures_of args.h ≤ length args.figures.now = omega (arith, c.figures_of.ensures, c.if-figures-figures_of.false) in
    let e = c.in_err-length.field-0.0 in
    let none = sym (ap (λ (r : Result ℕ FreshError). outcome r c.fresh_log.new.out) c.in_err-length.was) ∙ c.fresh_log.ensures in
    let r : c.from_residual.result ≡ Err e = grind (arith, common_steps, c.from_residual.ensures) in
    rw r (without-figures args.h args.out.now args.figures.now many (Err e) _ (refusal-number e) none)

pub returns : goal.returns
returns c =
    let args = c.args in
    let many : figures_of args.h ≤ length args.figures.now = omega (arith, c.figures_of.ensures, c.if-figures-figures_of.false) in
    let made = sym (ap (λ (r : Result ℕ FreshError). outcome r c.fresh_log.new.out) c.in_ok-length.was) ∙ c.fresh_log.ensures in
    with-figures args.h args.out.now args.figures.now many _ _ _ made c.fill_fresh.ensures
