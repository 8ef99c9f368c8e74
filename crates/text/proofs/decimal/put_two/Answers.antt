-- `put_two` meets its contract: the tens digit and behind it the last digit are `padded 2`; past the end nothing is written.
use mathlib.Core.List.{List, [], ◌∷◌}
use mathlib.Core.Path.{sym, ap, ◌∙◌}
use Prim.Native.Nat.{ℕ, ◌+◌, ◌%◌}
use Rattle.byte_numbers.specs.Place.{written}
use Rattle.byte_numbers.proofs.PlaceLaws.{written-cons, written-past}
use Rattle.text.specs.Decimal.{digit, padded}
use Rattle.text.proofs.decimal.put_two.Goals as goal

pub returns-then-at-out : goal.returns-then-at-out
unfolding padded
returns-then-at-out c =
    let put_byte = c.put_byte in
    let args = c.args in
    c.put_byte-then-at-out.ensures
    ∙ ap (λ (x : List ℕ). written x (args.at + 1) (digit (args.n % 10) ∷ [])) put_byte.ensures
    ∙ sym (written-cons args.out.now args.at _ _ [])

pub returns-else-at-out : goal.returns-else-at-out
returns-else-at-out c = sym (written-past _ _ _ c.if-at-out.false)
