use Rattle.std.proofs.Common.{refl, rules}
use Rattle.om_format.specs.Receipts.{receipt_record}
use Rattle.om_process.proofs.proc_core.ProcCore.repeat.Goals as goal

pub returns-clause-refused : goal.returns-clause-refused
returns-clause-refused c =
    (refl, (receipt_record c.in_ok-receipt.receipt, c.in_ok-receipt.ensures.found, c.in_ok-receipt.ensures.named, c.in_ok-again.ensures.other (search rules)))
