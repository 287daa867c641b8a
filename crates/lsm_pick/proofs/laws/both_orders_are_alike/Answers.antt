use Rattle.lsm_pick.proofs.BothOrders.{both_orders}
use Rattle.lsm_pick.proofs.laws.both_orders_are_alike.Goals as goal

pub returns : goal.returns
returns c = both_orders
