-- What follows from the definition of a fresh log with its figures: with room for both it is made, and its figures are right.
use Rattle.std.specs.Prelude.{Err, Ok, Result}
use Rattle.energy_log.specs.declared.fresh.FreshError.{FreshError}
use Prim.Native.Nat.{ℕ, ◌<◌, ◌≤◌}
use native.Mathlib.Nat.{zero-add}
use native.Mathlib.Omega.{arith}
use mathlib.Core.Path.{◌≡◌, refl, sym, ap, ap₂, subst, ◌∙◌}
use mathlib.Core.Bool.{Bool, true, false, cond}
use mathlib.Core.List.{List, ◌++◌}
use lib.Dec.{leb}
use lib.ListN.{length, take, drop}
use lib.Seq.{take_at}
use borrow.Author.Tests.{le-leb, leb-true}
use Rattle.refusal.specs.Outcome.{Outcome, outcome}
use Rattle.test_laws.proofs.Test.{chosen}
use Rattle.byte_numbers.specs.Place.{written}
use Rattle.byte_numbers.proofs.PlaceLaws.{length-written, written-fits}
use Rattle.log_header.specs.Header.{is_header, length_of}
use Rattle.energy_log.specs.Image.{cell_at}
use Rattle.energy_log.specs.Fresh.{fresh_number, fresh_image, fresh_of}
use Rattle.energy_log.proofs.FreshLaws.{fresh-gaps, length-fresh_image}
use Rattle.log_header.specs.declared.header.Header.{Header}
use Rattle.energy_log.specs.declared.fresh.FreshError.TheVariants.{OutOfRange, TooShort}
use Rattle.day_rows.specs.Rows.{figures_of, all_figures, all_gaps, Right}
use Rattle.day_rows.proofs.RowsLaws.{filled-front, fresh-right}
use Rattle.day_rows.specs.LogAndRows.{LogAndRows, log_and_rows, enough}
use Rattle.day_rows.specs.Fresh.{fresh_with}

-- ---- the log alone, and then the figures

module _ (h : Header) (out figs : List ℕ) (many : figures_of h ≤ length figs) where
  -- where a fresh log was made, its figures come too
  pub with-figures : (n : ℕ) (y after : List ℕ) → outcome (Ok n) y ≡ fresh_of h out → after ≡ written figs 0 (all_figures h all_gaps)
      → outcome (Ok n) (log_and_rows y after) ≡ fresh_with h out figs
  unfolding fresh_of fresh_with
  with-figures n y after p q = simp (le-leb _ _ many) (go (is_header h) (leb (length_of h) (length out)) p)
    where
      image : List ℕ
      image = written out 0 (fresh_image h)

      filled : List ℕ
      filled = written figs 0 (all_figures h all_gaps)

      go : (a b : Bool) → outcome (Ok n) y ≡ cond a (cond b (outcome (Ok (length_of h)) image) (outcome (Err TooShort) out)) (outcome (Err OutOfRange) out)
          → outcome (Ok n) (log_and_rows y after)
          ≡ cond a (cond b (outcome (Ok (length_of h)) (log_and_rows image filled)) (outcome (Err TooShort) (log_and_rows out figs))) (outcome (Err OutOfRange) (log_and_rows out figs))
      go true true e = ap₂ (λ (o : Outcome (Result ℕ FreshError) (List ℕ)) (x : List ℕ). outcome o.result (log_and_rows o.left x)) e q
      go true false e = absurd (omega (arith, ap (λ (o : Outcome (Result ℕ FreshError) (List ℕ)). fresh_number o.result) e))
      go false b e = absurd (omega (arith, ap (λ (o : Outcome (Result ℕ FreshError) (List ℕ)). fresh_number o.result) e))

  -- where none was made they stay
  pub without-figures : (a : Result ℕ FreshError) (y : List ℕ) → 0 < fresh_number a → outcome a y ≡ fresh_of h out
      → outcome a (log_and_rows y figs) ≡ fresh_with h out figs
  unfolding fresh_of fresh_with
  without-figures a y l p = simp (le-leb _ _ many) (go (is_header h) (leb (length_of h) (length out)) p)
    where
      image : List ℕ
      image = written out 0 (fresh_image h)

      filled : List ℕ
      filled = written figs 0 (all_figures h all_gaps)

      go : (b d : Bool) → outcome a y ≡ cond b (cond d (outcome (Ok (length_of h)) image) (outcome (Err TooShort) out)) (outcome (Err OutOfRange) out)
          → outcome a (log_and_rows y figs)
          ≡ cond b (cond d (outcome (Ok (length_of h)) (log_and_rows image filled)) (outcome (Err TooShort) (log_and_rows out figs))) (outcome (Err OutOfRange) (log_and_rows out figs))
      go true true e = absurd (omega (arith, l, ap (λ (o : Outcome (Result ℕ FreshError) (List ℕ)). fresh_number o.result) e))
      go true false e = ap (λ (o : Outcome (Result ℕ FreshError) (List ℕ)). outcome o.result (log_and_rows o.left figs)) e
      go false d e = ap (λ (o : Outcome (Result ℕ FreshError) (List ℕ)). outcome o.result (log_and_rows o.left figs)) e

-- it was made of a header
pub fresh-header : (h : Header) (out y : List ℕ) (n : ℕ) → outcome (Ok n) y ≡ fresh_of h out → is_header h ≡ true
unfolding fresh_of
fresh-header h out y n p = go (is_header h) refl p
  where
    go : (a : Bool) → is_header h ≡ a
        → outcome (Ok n) y ≡ cond a (cond (leb (length_of h) (length out)) (outcome (Ok (length_of h)) (written out 0 (fresh_image h))) (outcome (Err TooShort) out)) (outcome (Err OutOfRange) out)
        → is_header h ≡ true
    go true e q = e
    go false e q = absurd (omega (arith, ap (λ (o : Outcome (Result ℕ FreshError) (List ℕ)). fresh_number o.result) q))

-- no refusal has the number 0
pub refusal-number : (e : FreshError) → 0 < fresh_number (Err e)
refusal-number OutOfRange = omega arith
refusal-number TooShort = omega arith

-- ---- what was made

-- an image that was written stands at the front
image-front : (h : Header) (out : List ℕ) → length_of h ≤ length out → written out 0 (fresh_image h) ≡ fresh_image h ++ drop (length_of h) out
image-front h out l =
    written-fits out 0 (fresh_image h) (rw (zero-add, length-fresh_image) l)
    ∙ ap (λ (k : ℕ). fresh_image h ++ drop k out) (zero-add (length (fresh_image h)) ∙ length-fresh_image h)

-- with room for both, the log and its figures stand at the fronts of what was lent
pub fresh-both : (h : Header) (out figs : List ℕ) → is_header h ≡ true → length_of h ≤ length out → figures_of h ≤ length figs
    → fresh_with h out figs
    ≡ outcome (Ok (length_of h)) (log_and_rows (fresh_image h ++ drop (length_of h) out) (all_figures h all_gaps ++ drop (figures_of h) figs))
unfolding fresh_with
fresh-both h out figs e l m =
    simp (e, le-leb _ _ m, le-leb _ _ l)
    (ap₂ (λ (x y : List ℕ). outcome (Ok (length_of h)) (log_and_rows x y)) (image-front h out l) (filled-front h all_gaps figs m))

-- what a call that says so has made: the image, n bytes long, and its figures, which are right; behind them all stays
pub record Made (h : Header) (out figs : List ℕ) (left : LogAndRows) (n : ℕ) : Type 0 where
  pub header : is_header h ≡ true
  pub size : length_of h ≡ n
  pub room : length_of h ≤ length out
  pub enough : figures_of h ≤ length figs
  pub log : left.log ≡ fresh_image h ++ drop (length_of h) out
  pub image : take n left.log ≡ fresh_image h
  pub figures : left.figures ≡ all_figures h all_gaps ++ drop (figures_of h) figs
  pub same_length : length left.figures ≡ length figs
  pub right : Right h (cell_at (fresh_image h)) left.figures

-- a refusal is not `Ok`
refused : (a : Result ℕ FreshError) (x y : LogAndRows) (n : ℕ) → 0 < fresh_number a → outcome a x ≡ outcome (Ok n) y → ⊥
refused a x y n l p = omega (arith, ap (λ (o : Outcome (Result ℕ FreshError) LogAndRows). fresh_number o.result) p)

-- a call that says `Ok` has made the log and its figures
pub fresh-made : (h : Header) (out figs : List ℕ) (left : LogAndRows) (n : ℕ) → fresh_with h out figs ≡ outcome (Ok n) left → Made h out figs left n
unfolding fresh_with
fresh-made h out figs left n p =
    let a = chosen (is_header h) _ (outcome (Err OutOfRange) (log_and_rows out figs)) p (refused (Err OutOfRange) (log_and_rows out figs) left n (omega arith)) in
    let b = chosen (enough h figs) _ (outcome (Err TooShort) (log_and_rows out figs)) a.1 (refused (Err TooShort) (log_and_rows out figs) left n (omega arith)) in
    let c = chosen (leb (length_of h) (length out)) _ (outcome (Err TooShort) (log_and_rows out figs)) b.1 (refused (Err TooShort) (log_and_rows out figs) left n (omega arith)) in
    let d : Ok (length_of h) ≡ Ok n = ap (λ (o : Outcome (Result ℕ FreshError) LogAndRows). o.result) c.1 in
    let k : length_of h ≡ n = cc in
    let room : length_of h ≤ length out = leb-true _ _ c.0 in
    let many : figures_of h ≤ length figs = leb-true _ _ b.0 in
    let log : written out 0 (fresh_image h) ≡ left.log = ap (λ (o : Outcome (Result ℕ FreshError) LogAndRows). o.left.log) c.1 in
    let figures : written figs 0 (all_figures h all_gaps) ≡ left.figures = ap (λ (o : Outcome (Result ℕ FreshError) LogAndRows). o.left.figures) c.1 in
    let given : left.log ≡ fresh_image h ++ drop (length_of h) out = sym log ∙ image-front h out room in
    record {
      header = a.0;
      size = k;
      room = room;
      enough = many;
      log = given;
      image = ap (take n) given ∙ take_at (fresh_image h) (drop (length_of h) out) n (length-fresh_image h ∙ k);
      figures = sym figures ∙ filled-front h all_gaps figs many;
      same_length = sym (ap length figures) ∙ length-written figs 0 (all_figures h all_gaps);
      right = subst (Right h (cell_at (fresh_image h))) figures (fresh-right h (cell_at (fresh_image h)) figs many (λ i l. fresh-gaps h i a.0 l));
    }
