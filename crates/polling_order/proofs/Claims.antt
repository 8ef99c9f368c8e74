-- The theorem: the claim of specs/ with its proof, a field a line.
use Rattle.polling_order.specs.PollingOrder.{PollingOrder}
use Rattle.polling_order.proofs.History as history
use Rattle.polling_order.proofs.Premises as premises

pub polling-order : PollingOrder
polling-order = record {
  list_equal = history.list_equal;
  list_elsewhere = history.list_elsewhere;
  equal = history.equal;
  elsewhere = history.elsewhere;
  held = premises.held;
  lapse_completes = premises.lapse_completes;
  reply_completes = premises.reply_completes;
  once_each = premises.once_each;
  newest_first = premises.newest_first;
  differ = premises.differ;
}
