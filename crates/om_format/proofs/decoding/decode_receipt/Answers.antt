use Rattle.std.proofs.Common.{arith, subst}
use Rattle.om_format.specs.Outcomes.{Gives}
use Rattle.om_format.specs.Receipts.{receipt_record}
use Rattle.om_format.proofs.Receipts.{receipt_again, is_found, is_faulty}
use Rattle.om_format.proofs.decoding.decode_receipt.Goals as goal

pub returns-clause-found : goal.returns-clause-found
returns-clause-found c = is_found c.args.bytes.now c.receipt_at.result (λ i. omega (arith, c.type_inv.bytes i)) c.receipt_at.ensures.exact

pub returns-clause-only : goal.returns-clause-only
returns-clause-only c = λ r spelled. subst (λ due. Gives receipt_record c.receipt_at.result due) (receipt_again c.args.bytes.now r spelled) c.receipt_at.ensures.exact

pub returns-clause-fault : goal.returns-clause-fault
returns-clause-fault c = is_faulty c.args.bytes.now c.receipt_at.result c.receipt_at.ensures.exact c.receipt_at.ensures.memory
