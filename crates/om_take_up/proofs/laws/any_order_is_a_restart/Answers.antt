use Rattle.om_take_up.proofs.Orders.{any_order}
use Rattle.om_take_up.proofs.laws.any_order_is_a_restart.Goals as goal

pub returns : goal.returns
returns c = any_order
