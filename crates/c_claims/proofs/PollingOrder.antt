-- The polling order at the boundary: C's calls leave the log and the figures that the proved calls below them leave, whatever the list.
use mathlib.Core.Path.{◌≡◌, sym, ap₂, ◌∙◌}
use mathlib.Core.List.{List}
use Rattle.day_rows.specs.LogAndRows.{LogAndRows, log_and_rows}
use Rattle.logger.specs.Book.{Call, AllBytes}
use Rattle.polling_order.specs.Completed.{Completed, asks_in}
use Rattle.polling_order.specs.Order.{Reordered, OneReplyEach}
use Rattle.polling_order.specs.PollingOrder.{after, SameElsewhere}
use Rattle.polling_order.specs.Rounds.{Round, calls_of, AllComplete, asks_of}
use Rattle.polling_order.proofs.Claims as claims
use Rattle.c_claims.specs.Demand3.{Lent, Begins}
use Rattle.c_claims.specs.PollingOrder.{after_for_c}
use Rattle.c_claims.proofs.History.{whole}

module _ (m : Lent) (b : Begins m) where
  abbrev lent : LogAndRows
  lent = log_and_rows m.log m.figures

  -- what C's calls leave is what the calls below leave
  below : (calls : List Call) → AllBytes calls → after_for_c m calls ≡ after lent calls
  below calls k = ap₂ log_and_rows (whole m b calls k).0.log (whole m b calls k).0.figures

  above : (asks : List Completed) (these those : List Call) → AllBytes these → AllBytes those → SameElsewhere b.start asks (after lent these) (after lent those)
      → SameElsewhere b.start asks (after_for_c m these) (after_for_c m those)
  above asks these those k l same = rw (below these k, below those l) same

  -- CR 13's `equal`: the same completed asks, no interval with two different nonzero replies, give C equal logs
  pub equal : (these those : List Call) → AllBytes these → AllBytes those
      → Reordered (asks_in b.start these) (asks_in b.start those) → OneReplyEach b.start (asks_in b.start these)
      → after_for_c m these ≡ after_for_c m those
  equal these those k l p one = below these k ∙ (claims.polling-order).equal lent b.start these those k l p one ∙ sym (below those l)

  -- CR 13's `elsewhere`: where an interval has two such replies, "the logs differ at most in the cells concerned"
  pub elsewhere : (these those : List Call) → AllBytes these → AllBytes those
      → Reordered (asks_in b.start these) (asks_in b.start those)
      → SameElsewhere b.start (asks_in b.start these) (after_for_c m these) (after_for_c m those)
  elsewhere these those k l p = above (asks_in b.start these) these those k l ((claims.polling-order).elsewhere lent b.start these those k l p)

  bytes_of : (rounds : List Round) → AllComplete b.start.header rounds → AllBytes (calls_of rounds)
  bytes_of rounds c = ((claims.polling-order).held lent b.start rounds c).0

  -- CR 13's `list_equal`: under the same condition so do lists of completed asks in another order, each ask closed before the next
  pub list_equal : (these those : List Round) → let h = b.start.header in AllComplete h these → AllComplete h those
      → Reordered (asks_of h these) (asks_of h those) → OneReplyEach b.start (asks_of h these)
      → after_for_c m (calls_of these) ≡ after_for_c m (calls_of those)
  list_equal these those c d p one =
      below (calls_of these) (bytes_of these c)
      ∙ (claims.polling-order).list_equal lent b.start these those c d p one
      ∙ sym (below (calls_of those) (bytes_of those d))

  -- CR 13's `list_elsewhere`: of such lists too "the logs differ at most in the cells concerned"
  pub list_elsewhere : (these those : List Round) → let h = b.start.header in AllComplete h these → AllComplete h those
      → Reordered (asks_of h these) (asks_of h those)
      → SameElsewhere b.start (asks_of h these) (after_for_c m (calls_of these)) (after_for_c m (calls_of those))
  list_elsewhere these those c d p =
      above (asks_of b.start.header these) (calls_of these) (calls_of those) (bytes_of these c) (bytes_of those d)
      ((claims.polling-order).list_elsewhere lent b.start these those c d p)
