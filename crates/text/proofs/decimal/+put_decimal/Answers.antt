-- `put_decimal` meets its contract: a number's digits are its tenth's, to which the measure, the number, falls, and behind them its last.
use mathlib.Core.Path.{sym, ap, ap₂, ◌∙◌}
use mathlib.Core.List.{List, [], ◌∷◌}
use Prim.Native.Nat.{ℕ, ◌+◌, ◌/◌, ◌%◌, ◌<◌, ◌≤◌}
use native.Mathlib.Omega.{arith}
use Rattle.byte_numbers.specs.Place.{written}
use Rattle.byte_numbers.proofs.PlaceLaws.{written-past, written-append}
use Rattle.text.specs.Decimal.{digit, decimal}
use Rattle.text.proofs.DecimalLaws.{decimal-one, decimal-more, length-decimal-one, length-decimal-more, decimal-most-u64}
use Rattle.text.proofs.decimal.+put_decimal.Goals as goal

pub returns-then-out-at : goal.returns-then-out-at
returns-then-out-at t c = (sym (written-past _ _ _ c.if-out-at.true), c.decimal_length.ensures)

pub returns-then-n-lt-TEN : goal.returns-then-n-lt-TEN
returns-then-n-lt-TEN t c =
    let one : c.args.n < 10 = omega (arith, c.if-n-lt-TEN.true) in (
      c.put_byte.ensures ∙ ap (written c.args.out.now c.args.at) (sym (decimal-one c.args.n one)),
      sym (length-decimal-one c.args.n one),
    )

pub overflow_add-at : goal.overflow_add-at
overflow_add-at t c = omega (arith, c.put_decimal-before.ensures.1, decimal-most-u64 (c.args.n / 10) (omega (arith, c.ranges.n)))

pub overflow_add-result : goal.overflow_add-result
overflow_add-result t c = omega (arith, c.put_decimal-before.ensures.1, decimal-most-u64 (c.args.n / 10) (omega (arith, c.ranges.n)))

pub returns : goal.returns
returns t c =
    let s = c.args.out.now in
    let at = c.args.at in
    let n = c.args.n in
    let more : 10 ≤ n = omega (arith, c.if-n-lt-TEN.false) in
    let tenth = c.put_decimal-before.ensures in (
      c.put_byte-2.ensures
          ∙ ap₂ (λ (x : List ℕ) (k : ℕ). written x (at + k) (digit (n % 10) ∷ [])) tenth.0 tenth.1
          ∙ sym (written-append s at (decimal (n / 10)) (digit (n % 10) ∷ []))
          ∙ ap (written s at) (sym (decimal-more n more)),
      omega (arith, tenth.1, length-decimal-more n more),
    )
