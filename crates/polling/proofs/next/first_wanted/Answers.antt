-- `first_wanted` meets its contract: what is found among the day's slots is the first that is asked for (`found-said`).
use Rattle.std.proofs.lemmas.Iterator.{first_from_Range}
use Rattle.polling.proofs.NextLaws.{found-said}
use Rattle.polling.specs.Next.{asks_for}
use Rattle.energy_log.specs.Image.{cell_at}
use borrow.Author.Rules.{rules}
use borrow.Author.Tests.{tests}
use mathlib.Core.Bool.{true, false}
use mathlib.Core.Path.{◌≡◌}
use Rattle.polling.proofs.next.first_wanted.Goals as goal

pub returns : goal.returns
returns c =
    let args = c.args in
    let cell = cell_at args.log.now in
    found-said args.wanted args.h cell args.day args.slot c.slots_of.result c.slots_of.ensures c.find.result
    (first_from_Range _ _ _ c.find.result (λ k. asks_for args.wanted args.h cell args.day k ≡ true) (λ k. asks_for args.wanted args.h cell args.day k ≡ false)
    c.find.ensures.ran (λ x q k. search (rules, tests)) (λ x q k. search (rules, tests)))
