-- `write_line` meets its contract: date, numbers and line feed, each put where the one before ends, are the line (`written-line`).
use Rattle.day_report.proofs.TextLaws.{length-line, written-line}
use Rattle.day_report.specs.Text.{line_feed, numbers_text, date_size}
use Rattle.byte_numbers.specs.Place.{written}
use mathlib.Core.Path.{ap, ap₂, ◌∙◌}
use mathlib.Core.List.{List, [], ◌∷◌}
use Prim.Native.Nat.{ℕ}
use native.Mathlib.Omega.{arith}
use Rattle.day_report.proofs.line.write_line.Goals as goal

pub overflow_add-result : goal.overflow_add-result
overflow_add-result c =
    let write-numbers = c.write_numbers-end in
    omega (arith, write-numbers.ensures.2)

pub returns : goal.returns
returns c =
    let put-date = c.put_date in
    let start = c.args in
    let numbers = c.write_numbers-end.ensures in (
      c.put_byte.ensures
          ∙ ap₂ (λ (x : List ℕ) (k : ℕ). written x k (line_feed ∷ []))
          (numbers.0 ∙ ap (λ (x : List ℕ). written x date_size (numbers_text start.row)) put-date.ensures) numbers.1
          ∙ written-line start.line.now start.date start.row,
      omega (arith, numbers.1, length-line start.date start.row),
      omega (arith, numbers.2),
    )
