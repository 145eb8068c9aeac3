use Rattle.std.proofs.Common.{subst, is_some}
use Rattle.std.specs.Prelude.{Option}
use Rattle.om_storing.specs.declared.kept.Kept.{Kept}
use Rattle.om_storing.specs.Receipts.{HasStoredBy}
use Rattle.om_worker.proofs.worker.Worker.after_receipt.Goals as goal

pub returns-in_ok-store_by-clause-stored : goal.returns-in_ok-store_by-clause-stored
returns-in_ok-store_by-clause-stored g c = λ spared fast.
    let fail = c.is_to_fail in let new = c.store_by.new.node.core in let old = c.args.node.now.core in
    subst (λ (k : Option Kept). HasStoredBy c.args.x c.args.self.now.config.now.flush c.args.self.now.config.now.checkpoint (is_some k) old new) fail.ensures.kept
    (subst (λ p. HasStoredBy c.args.x p.now.flush p.now.checkpoint (is_some fail.new.self.storing.kept) old new) fail.ensures.config c.in_ok-store_by.ensures.stored)
