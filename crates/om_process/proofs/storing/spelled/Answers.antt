use Rattle.std.proofs.Common.{rules}
use Rattle.om_process.proofs.Logging.{spelled_more}
use Rattle.om_process.proofs.storing.spelled.Goals as goal

pub loop-logged-preserved : goal.loop-logged-preserved
loop-logged-preserved c =
    spelled_more c.args.log.now c.loop-logged.logged-index c.logged-item.result c.loop-logged.recs.items c.push.new.self.items c.in_ok-encode_receipt.field-0 (search rules) (search rules) c.in_ok-push.ensures.items c.in_ok-encode_receipt.ensures c.loop-logged.invariant
