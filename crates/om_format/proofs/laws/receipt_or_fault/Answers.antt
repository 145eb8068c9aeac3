use Rattle.om_format.proofs.Receipts as receipts
use Rattle.om_format.proofs.laws.receipt_or_fault.Goals as goal

pub returns : goal.returns
returns c = λ bytes fits. receipts.receipt_or_fault bytes fits
