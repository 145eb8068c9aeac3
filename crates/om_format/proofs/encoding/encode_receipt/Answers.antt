use Rattle.om_format.proofs.Receipts.{is_spelled}
use Rattle.om_format.proofs.encoding.encode_receipt.Goals as goal

pub returns : goal.returns
returns c = is_spelled _ c.receipt_bytes.result c.receipt_bytes.ensures.bytes c.receipt_bytes.ensures.lawful
