use Rattle.std.proofs.Common.{rules}
use Rattle.om_check.proofs.Excluding.{keeps_other}
use Rattle.om_check.proofs.walk.elsewhere.Goals as goal

pub loop-delivery-preserved : goal.loop-delivery-preserved
loop-delivery-preserved c walk from all =
    keeps_other walk from c.args.to c.loop-delivery.kept.items c.keep_other.new.kept.items c.args.excluded.now c.loop-delivery.delivery-index
    c.delivery-item.result (search rules) c.delivery-item.is c.in_ok-keep_other.ensures all (c.loop-delivery.invariant walk from all)
