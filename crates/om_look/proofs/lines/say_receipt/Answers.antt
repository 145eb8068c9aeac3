use Rattle.std.proofs.Common.{inl, refl}
use Rattle.om_format.specs.Receipts.{receipt_record}
use Rattle.om_look.specs.Lines.{receipt_text}
use Rattle.om_look.proofs.lines.say_receipt.Goals as goal

pub returns-in_ok-push_message-in-Ok-clause-said : goal.returns-in_ok-push_message-in-Ok-clause-said
returns-in_ok-push_message-in-Ok-clause-said c =
    let r = receipt_record c.in-Ok.receipt in (receipt_text c.args.x r, inl (r, c.in-Ok.ensures.found, refl), c.in_ok-push_message-in-Ok.ensures)
