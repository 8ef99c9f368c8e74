-- `put_refused` meets its contract: the room is `put_text`'s own test, and word, number and line feed are the line (`written-refused`).
use Rattle.std.specs.Prelude.{Ok}
use native.Mathlib.Omega.{arith}
use lib.ListN.{length}
use Prim.Native.Nat.{ℕ, ◌+◌, ◌<◌, ◌≤◌}
use mathlib.Core.List.{List, [], ◌∷◌}
use mathlib.Core.Path.{◌≡◌, ap, ap₂, ◌∙◌}
use borrow.Author.Tests.{le-leb, lt-leb}
use Rattle.byte_numbers.specs.Place.{written}
use Rattle.text.specs.Decimal.{decimal}
use Rattle.text.specs.Ascii.{ascii}
use Rattle.text.proofs.DecimalLaws.{decimal-most-u32}
use Rattle.report_page.proofs.PageLaws.{length-refused, written-refused}
use Rattle.report_page.specs.Page.{refused_text}
use Rattle.refusal.specs.Outcome.{outcome}
use Rattle.day_report.specs.Text.{put_text, line_feed}
use Rattle.report_page.proofs.refused.put_refused.Goals as goal

pub overflow_add-end : goal.overflow_add-end
overflow_add-end c =
    omega (arith, c.decimal_length-end.ensures, decimal-most-u32 c.args.number (omega (arith, c.well_formed)))

pub returns-then-out-end : goal.returns-then-out-end
unfolding put_text
returns-then-out-end c =
    let args = c.args in
    let short : length args.out.now < length (refused_text args.number)
    = omega (arith, c.if-out-end.true, c.decimal_length-end.ensures, length-refused args.number) in
    simp (lt-leb _ _ short)

pub returns : goal.returns
unfolding put_text ascii
returns c =
    let if1 = c.if-out-end in
    let digits = c.decimal_length-end in
    let args = c.args in
    let put-decimal = c.put_decimal in
    let put-bytes = c.put_bytes in
    let line = length-refused args.number in
    let fits : length (refused_text args.number) ≤ length args.out.now = omega (arith, if1.false, digits.ensures, line) in
    let size : 8 + digits.result + 1 ≡ length (refused_text args.number) = omega (arith, digits.ensures, line) in
    let text =
    c.put_byte.ensures
    ∙ ap₂ (λ (x : List ℕ) (k : ℕ). written x (8 + k) (line_feed ∷ []))
    (put-decimal.ensures.0 ∙ ap (λ (x : List ℕ). written x 8 (decimal args.number)) put-bytes.ensures) digits.ensures
    ∙ written-refused args.out.now args.number in
    simp (le-leb _ _ fits) (ap₂ (λ (k : ℕ) (x : List ℕ). outcome (Ok k) x) size text)
