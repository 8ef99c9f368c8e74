-- Document 02, CR 13, "Polling order", of the functions that firmware links, over the memory that it lends them: "two histories holding the same completed asks, each with
-- its reply or lapse, in another order give equal logs"; "Where only the first of these fails, show that the logs differ at most in the cells concerned."
--
-- The calls run as in Demand3.antt beside this file; completed asks, their order and what is equal are those of polling_order/specs. Proofs: `polling-order`, proofs/Claims.antt.
use Rattle.std.specs.Prelude.{◌≡◌, List}
use Rattle.day_rows.specs.LogAndRows.{LogAndRows, log_and_rows}
use Rattle.logger.specs.Book.{Call, AllBytes}
use Rattle.polling_order.specs.Completed.{asks_in}
use Rattle.polling_order.specs.Order.{Reordered, OneReplyEach}
use Rattle.polling_order.specs.PollingOrder.{SameElsewhere}
use Rattle.polling_order.specs.Rounds.{Round, calls_of, AllComplete, asks_of}
use Rattle.c_claims.specs.Demand3.{Lent, ran_for_c, Begins}

-- the lent log and its figures after a list of calls
abbrev pub after_for_c : Lent → List Call → LogAndRows
after_for_c m calls = let o = (ran_for_c m calls).left in log_and_rows o.log o.figures

pub record PollingOrderC : Type 0 where
  -- lists of completed asks, each ask closed before the next
  pub list_equal : (m : Lent) (b : Begins m) (these those : List Round) → let h = b.start.header in AllComplete h these → AllComplete h those
      → Reordered (asks_of h these) (asks_of h those) → OneReplyEach b.start (asks_of h these)
      → after_for_c m (calls_of these) ≡ after_for_c m (calls_of those)
  pub list_elsewhere : (m : Lent) (b : Begins m) (these those : List Round) → let h = b.start.header in AllComplete h these → AllComplete h those
      → Reordered (asks_of h these) (asks_of h those)
      → SameElsewhere b.start (asks_of h these) (after_for_c m (calls_of these)) (after_for_c m (calls_of those))
  -- any histories that hold the same completed asks
  pub equal : (m : Lent) (b : Begins m) (these those : List Call) → AllBytes these → AllBytes those
      → Reordered (asks_in b.start these) (asks_in b.start those) → OneReplyEach b.start (asks_in b.start these)
      → after_for_c m these ≡ after_for_c m those
  pub elsewhere : (m : Lent) (b : Begins m) (these those : List Call) → AllBytes these → AllBytes those
      → Reordered (asks_in b.start these) (asks_in b.start those)
      → SameElsewhere b.start (asks_in b.start these) (after_for_c m these) (after_for_c m those)
