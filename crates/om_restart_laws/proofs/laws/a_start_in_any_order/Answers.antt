use Rattle.om_restart_laws.proofs.Alone.{any_order_stands}
use Rattle.om_restart_laws.proofs.laws.a_start_in_any_order.Goals as goal

pub returns : goal.returns
returns c = any_order_stands
