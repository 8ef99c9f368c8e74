-- `index_of` meets its contract: the place of the first byte that is equal, and the length where there is none.
use Rattle.std.proofs.Common.{◌≡◌, ◌∙◌, ◌≤◌, ℕ, Bool, true, false, Some, None, cond, refl, sym, eqb, ltb, arith, rules, tests, length}
use borrow.Author.Tests.{ltb-false}
use Rattle.std.proofs.lemmas.Iterator.{YieldsList-from_slice}
use Rattle.std.proofs.lemmas.Iterator.Search.{position_from_yields_List}
use Rattle.text.specs.Search.{index_of}
use Rattle.text.proofs.SearchLaws.{index_of-most}
use Rattle.text.proofs.search.index_of.Goals as goal

found : (i n m : ℕ) → cond (ltb i n) (Some i) None ≡ Some m → m ≡ i
found i n m e = go (ltb i n) e
  where
    go : (a : Bool) → cond a (Some i) None ≡ Some m → m ≡ i
    go true h = cc
    go false h = cc

nowhere : (i n : ℕ) → cond (ltb i n) (Some i) None ≡ None → n ≤ i
nowhere i n e = go (ltb i n) refl e
  where
    go : (a : Bool) → ltb i n ≡ a → cond a (Some i) None ≡ None → n ≤ i
    go true q h = cc
    go false q h = ltb-false i n q

pub returns-in-Some : goal.returns-in-Some
returns-in-Some c =
    let s = c.args.s.now in
    let byte = c.args.byte in
    let place = position_from_yields_List (λ x. eqb x byte) _ _ c.position.result c.position.ensures.ran (YieldsList-from_slice s cc) (λ x b q k. search (rules, tests)) in
    omega (arith, found (index_of byte s) (length s) _ (sym place ∙ c.in-Some.is))

pub returns-in-None : goal.returns-in-None
returns-in-None c =
    let s = c.args.s.now in
    let byte = c.args.byte in
    let place = position_from_yields_List (λ x. eqb x byte) _ _ c.position.result c.position.ensures.ran (YieldsList-from_slice s cc) (λ x b q k. search (rules, tests)) in
    omega (arith, index_of-most byte s, nowhere (index_of byte s) (length s) (sym place ∙ c.in-None.is))
