-- `put_all` meets its contract: the loop keeps that writing the items left at the next place gives the whole result; it ends as the items or the places run out.
use mathlib.Core.Bool.{Bool, true, false}
use mathlib.Core.List.{◌∷◌}
use mathlib.Core.Path.{◌≡◌, refl, sym, ap, ◌∙◌}
use native.Mathlib.Nat.{add-suc}
use native.Mathlib.Numerals.{add-one}
use native.Mathlib.Omega.{arith}
use lib.Dec.{leb}
use lib.ListN.{length, drop, drop_of_length-le}
use lib.Seq.{drop-cons}
use borrow.Author.Tests.{leb-true, leb-false}
use Prim.Native.Nat.{suc, ◌<◌, ◌≤◌, ◌+◌}
use Rattle.byte_numbers.specs.Place.{written}
use Rattle.byte_numbers.proofs.PlaceLaws.{written-past}
use Rattle.byte_numbers.proofs.put_all.Goals as goal

pub loop-i-preserved : goal.loop-i-preserved
unfolding written
loop-i-preserved g c =
    let l = c.loop-i in
    let items = c.args.items.now in
    let item = c.index-items-i in
    let there : l.i < length items = omega (arith, c.loop-i-test.true, c.min-n.ensures) in
    let next : drop l.i items ≡ item.result ∷ drop (suc l.i) items = drop-cons items l.i item.result there ∙ ap (λ x. x ∷ drop (suc l.i) items) (sym item.is) in
    rw (add-one, add-suc) (sym (ap (written l.out _) next) ∙ l.invariant)

pub returns-after-loop-i : goal.returns-after-loop-i
unfolding written
returns-after-loop-i g c = go (leb (length c.args.items.now) c.loop-i.i) refl
  where
    go : (b : Bool) → leb (length c.args.items.now) c.loop-i.i ≡ b → c.loop-i.out ≡ written c.args.out.now c.args.at c.args.items.now
    go true p = sym (ap (written c.loop-i.out (c.args.at + c.loop-i.i)) (drop_of_length-le c.args.items.now (leb-true _ _ p))) ∙ c.loop-i.invariant
    go false p =
        let past : length c.loop-i.out ≤ c.args.at + c.loop-i.i = omega (arith, leb-false _ _ p, c.loop-i-test.false, c.min-n.ensures, c.loop-i.auto.out) in
        sym (written-past c.loop-i.out (c.args.at + c.loop-i.i) (drop c.loop-i.i c.args.items.now) past) ∙ c.loop-i.invariant

pub returns-else-at-out : goal.returns-else-at-out
returns-else-at-out g c = sym (written-past _ _ _ c.if-at-out.false)
