use Rattle.om_format.proofs.Receipts.{one_receipt}
use Rattle.om_format.proofs.laws.one_reading_of_a_receipt.Goals as goal

pub returns : goal.returns
returns c = λ r s bytes p q. one_receipt bytes r s p q
