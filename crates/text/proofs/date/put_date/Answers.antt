-- `put_date` meets its contract: century, year, hyphen, month, hyphen and day, put one behind the other, are `date_text` (`written-date`).
use mathlib.Core.List.{List, [], ◌∷◌}
use mathlib.Core.Path.{sym, ap, ◌∙◌}
use Prim.Native.Nat.{ℕ, ◌+◌, ◌%◌}
use Rattle.byte_numbers.specs.Place.{written}
use Rattle.byte_numbers.proofs.PlaceLaws.{written-past}
use Rattle.text.specs.DateText.{hyphen}
use Rattle.text.proofs.DateTextLaws.{written-date}
use Rattle.text.specs.Decimal.{padded}
use Rattle.text.proofs.date.put_date.Goals as goal

pub returns-then-at-out : goal.returns-then-at-out
returns-then-at-out c =
    let at = c.args.at in
    let d = c.args.d in
    c.put_two-then-at-out-3.ensures
    ∙ ap (λ (x : List ℕ). written x (at + 8) (padded 2 d.day))
    (c.put_byte-then-at-out.ensures
    ∙ ap (λ (x : List ℕ). written x (at + 7) (hyphen ∷ []))
    (c.put_two-then-at-out-2.ensures
    ∙ ap (λ (x : List ℕ). written x (at + 5) (padded 2 d.month))
    (c.put_byte.ensures
    ∙ ap (λ (x : List ℕ). written x (at + 4) (hyphen ∷ []))
    (c.put_two-then-at-out.ensures
    ∙ ap (λ (x : List ℕ). written x (at + 2) (padded 2 ((2000 + d.year) % 100))) c.put_two.ensures))))
    ∙ written-date c.args.out.now at d

pub returns-else-at-out : goal.returns-else-at-out
returns-else-at-out c = sym (written-past _ _ _ c.if-at-out.false)
