-- `by_fours` meets its contract: the loop keeps that a walk over the places left finds what one over all does.
use Rattle.meter_store.proofs.FourLaws.{first_on, first-in, first-most}
use Rattle.meter_store.proofs.FindLaws.{first-end}
use Rattle.meter_store.specs.Store.{places, key_of, first_from, place_of}
use native.Mathlib.Omega.{arith}
use Prim.Native.Nat.{ℕ, ◌+◌, ◌-◌, ◌*◌, ◌<◌}
use mathlib.Core.Path.{◌≡◌, refl, sym, ap, ◌∙◌}
use Rattle.meter_store.proofs.find.by_fours.Goals as goal

pub loop-turn-init : goal.loop-turn-init
unfolding place_of
loop-turn-init c = refl

pub in_four-found-requires : goal.in_four-found-requires
in_four-found-requires c =
    let pre = c.requires in
    (pre.0, omega arith, pre.1)

pub returns-then-found-i : goal.returns-then-found-i
returns-then-found-i c =
    let start = c.args in
    let turn = c.loop-turn in
    let s = start.store.now in
    let k = key_of start.month start.day start.number in
    let i : ℕ = 4 * turn.turn in
    let left = places - (i + 4) in
    let e : 4 + left ≡ places - i = omega arith in
    let found = c.in_four-found.ensures in
    let inside : first_from s k i 4 < i + 4 = omega (arith, sym found) in
    found ∙ sym (first-in s k i 4 left inside) ∙ ap (first_from s k i) e ∙ turn.invariant

pub loop-turn-preserved : goal.loop-turn-preserved
loop-turn-preserved c =
    let start = c.args in
    let turn = c.loop-turn in
    let s = start.store.now in
    let k = key_of start.month start.day start.number in
    let i : ℕ = 4 * turn.turn in
    let left = places - (i + 4) in
    let e : 4 + left ≡ places - i = omega arith in
    let next : 4 * (turn.turn + 1) ≡ i + 4 = omega arith in
    let none : first_from s k i 4 ≡ i + 4 = omega (arith, sym c.in_four-found.ensures, first-most s k i 4) in
    rw next (sym (first_on s k i 4 left none) ∙ ap (first_from s k i) e ∙ turn.invariant)

pub returns : goal.returns
returns c =
    let start = c.args in
    let turn = c.loop-turn in
    let s = start.store.now in
    let k = key_of start.month start.day start.number in
    let i : ℕ = 4 * turn.turn in
    let e : places - i ≡ 0 = omega arith in
    let last : places ≡ i = omega arith in
    last ∙ sym (first-end s k i) ∙ sym (ap (first_from s k i) e) ∙ turn.invariant
