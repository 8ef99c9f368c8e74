-- `write_numbers` meets its contract: the loop keeps that the numbers left, written at the next place, give all.
use Rattle.day_report.proofs.TextLaws.{numbers-most, length-next, written_next}
use Rattle.day_report.specs.Text.{numbers_text, space, number_most}
use Rattle.text.specs.Decimal.{decimal}
use Rattle.byte_numbers.specs.Place.{written}
use borrow.Author.Rules.{rules}
use mir.Syntax.{w32}
use mir.Val.{Fits}
use lib.ListN.{length, get_or, drop, drop_of_length-le}
use native.Mathlib.Omega.{arith}
use mathlib.Core.List.{List, [], ◌∷◌}
use mathlib.Core.Path.{◌≡◌, sym, ap, ap₂, ◌∙◌}
use Prim.Native.Nat.{ℕ, ◌+◌, ◌*◌, ◌≤◌, ◌<◌}
use Rattle.day_report.proofs.line.write_numbers.Goals as goal

-- the numbers of a report are no longer than its longest line
short : (row : List ℕ) → length row ≡ 8 → ((k : ℕ) → Fits w32 (get_or row k 0)) → length (numbers_text row) ≤ 8 * number_most
short row count fit = omega (arith, numbers-most row (λ k. (fit k).fits))

pub overflow_add-at : goal.overflow_add-at
overflow_add-at c = omega (arith, short c.args.row (search rules) (λ k. search rules))

pub overflow_add-at-in-loop-n : goal.overflow_add-at-in-loop-n
overflow_add-at-in-loop-n c =
    let l = c.loop-n in
    let size : length c.args.row ≡ 8 = search rules in
    let inside : l.n-index < length c.args.row = omega arith in
    omega (arith, short c.args.row size (λ k. search rules), length-next c.args.row l.n-index inside, c.put_decimal-digits.ensures.1)

pub overflow_add-at-in-loop-n-2 : goal.overflow_add-at-in-loop-n-2
overflow_add-at-in-loop-n-2 c =
    let l = c.loop-n in
    let size : length c.args.row ≡ 8 = search rules in
    let inside : l.n-index < length c.args.row = omega arith in
    omega (arith, short c.args.row size (λ k. search rules), length-next c.args.row l.n-index inside, c.put_decimal-digits.ensures.1)

pub loop-n-preserved : goal.loop-n-preserved
loop-n-preserved c =
    let l = c.loop-n in
    let row = c.args.row in
    let digits = c.put_decimal-digits.ensures in
    let own = decimal (get_or row l.n-index 0) in
    let size : length row ≡ 8 = search rules in
    let inside : l.n-index < length row = omega arith in
    let put = written (written l.line l.at (space ∷ [])) (l.at + 1) own in
    let e : l.at + (1 + length own) ≡ l.at + 1 + length own = omega arith in
    record {
      text =
          ap₂ (λ (x : List ℕ) (k : ℕ). written x (l.at + (1 + k)) (numbers_text (drop (l.n-index + 1) row)))
          (digits.0 ∙ ap (λ (x : List ℕ). written x (l.at + 1) own) c.put_byte.ensures) digits.1
          ∙ ap (λ (k : ℕ). written put k (numbers_text (drop (l.n-index + 1) row))) e
          ∙ written_next row l.n-index inside l.line l.at ∙ l.invariant.text;
      end = omega (arith, digits.1, length-next row l.n-index inside);
    }

pub returns : goal.returns
unfolding numbers_text written
returns c =
    let l = c.loop-n in
    let row = c.args.row in
    let none : numbers_text (drop l.n-index row) ≡ [] = ap numbers_text (drop_of_length-le row {i = l.n-index} (omega arith)) in (
      sym (ap (written l.line l.at) none) ∙ l.invariant.text,
      omega (arith, ap length none),
      omega (arith, ap length none, short row (search rules) (λ k. search rules)),
    )
