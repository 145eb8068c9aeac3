use Rattle.om_process.proofs.StoredLemmas.{receipt_damaged}
use Rattle.om_process.proofs.repeating.receipt_at.Goals as goal

pub returns-in-Err-clause-refused : goal.returns-in-Err-clause-refused
returns-in-Err-clause-refused c = receipt_damaged c.args.y c.args.bytes.now c.damaged.result c.in-Err.error c.damaged.ensures c.in-Err.ensures.only
