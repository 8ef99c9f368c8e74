-- `put_number` meets its contract: the loop keeps that putting the digits left before what is stored gives the whole result (`written_last`).
use mathlib.Core.Path.{◌≡◌, sym, ap, ◌∙◌}
use mathlib.Core.List.{List, [], ◌∷◌}
use Prim.Native.Nat.{ℕ, suc, ◌+◌, ◌-◌, ◌/◌, ◌%◌}
use native.Mathlib.Omega.{arith}
use Rattle.byte_numbers.specs.Place.{written}
use Rattle.packed_decimal.specs.Packed.{pair_of, packed_of}
use Rattle.packed_decimal.proofs.PackedLaws.{written_last}
use Rattle.packed_decimal.proofs.put_number.Goals as goal

pub loop-i-preserved : goal.loop-i-preserved
loop-i-preserved c =
    let at = c.args.at in
    let l = c.loop-i in
    let stored : c.put_at.new.out ≡ written l.out (at + (l.i - 1)) (pair_of (l.rest % 100) ∷ []) =
    c.put_at.ensures ∙ ap (λ (b : ℕ). written l.out (at + (l.i - 1)) (b ∷ [])) c.pair.ensures in
    let one_less : l.i ≡ suc (l.i - 1) = omega arith in
    ap (λ (s : List ℕ). written s at (packed_of (l.i - 1) (l.rest / 100))) stored
    ∙ written_last l.out at (l.i - 1) l.rest
    ∙ ap (λ (k : ℕ). written l.out at (packed_of k l.rest)) (sym one_less)
    ∙ l.invariant

pub returns : goal.returns
unfolding written packed_of
returns c =
    let l = c.loop-i in
    let none : l.i ≡ 0 = omega arith in
    sym (ap (λ (k : ℕ). written l.out c.args.at (packed_of k l.rest)) none) ∙ l.invariant
