use Rattle.om_format.specs.Receipts.{receipt_format, receipt_values}
use Rattle.om_format.proofs.Formats.{one_spelling}
use Rattle.om_format.proofs.laws.one_spelling_of_a_receipt.Goals as goal

pub returns : goal.returns
returns c = λ r a b p q. one_spelling receipt_format (receipt_values r) a b p q
