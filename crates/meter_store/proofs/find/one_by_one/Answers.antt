-- `one_by_one` meets its contract: the loop keeps that a walk over the places left finds what a walk over all finds.
use Rattle.meter_store.proofs.FindLaws.{first-hit, first-miss, first-end}
use Rattle.meter_store.specs.Store.{key_of, first_from}
use Prim.Native.Nat.{ℕ, suc, ◌+◌, ◌-◌}
use native.Mathlib.Numerals.{add-one}
use native.Mathlib.Omega.{arith}
use mathlib.Core.Path.{◌≡◌, sym, ap, ◌∙◌}
use Rattle.meter_store.proofs.find.one_by_one.Goals as goal

pub returns-then-holds : goal.returns-then-holds
returns-then-holds c =
    let start = c.args in
    let turn = c.loop-i in
    let s = start.store.now in
    let k = key_of start.month start.day start.number in
    let left = start.to - (turn.i + 1) in
    let e : start.to - turn.i ≡ suc left = omega arith in
    sym (first-hit s k turn.i left (sym c.holds.ensures ∙ c.if-holds.true)) ∙ sym (ap (first_from s k turn.i) e) ∙ turn.invariant

pub loop-i-preserved : goal.loop-i-preserved
loop-i-preserved c =
    let start = c.args in
    let turn = c.loop-i in
    let s = start.store.now in
    let k = key_of start.month start.day start.number in
    let left = start.to - (turn.i + 1) in
    let e : start.to - turn.i ≡ suc left = omega arith in
    ap (λ (m : ℕ). first_from s k m left) (add-one turn.i)
    ∙ sym (first-miss s k turn.i left (sym c.holds.ensures ∙ c.if-holds.false))
    ∙ sym (ap (first_from s k turn.i) e)
    ∙ turn.invariant

pub returns : goal.returns
returns c =
    let start = c.args in
    let turn = c.loop-i in
    let s = start.store.now in
    let k = key_of start.month start.day start.number in
    let e : start.to - turn.i ≡ 0 = omega arith in
    let last : start.to ≡ turn.i = omega arith in
    last ∙ sym (first-end s k turn.i) ∙ sym (ap (first_from s k turn.i) e) ∙ turn.invariant
