use Rattle.std.proofs.Common.{◌≡◌, ◌<◌, length, get_or, rules, refl, sym, ap, ◌∙◌, subst}
use Rattle.std.specs.Prelude.{IfErr, Err}
use Rattle.om_format.specs.Receipts.{SpellsReceipt, receipt_record}
use Rattle.om_stable.specs.Content.{rows_of}
use Rattle.om_look.specs.Rows.{IsSenderOf}
use Rattle.om_look.specs.steps.Rowing.{RefusesOneOf}
use Rattle.std.specs.List.{AllZip}
use Rattle.om_look.proofs.RowsLemmas.{sender_refused, senders_more}
use Rattle.om_look.proofs.rows.senders_in.Goals as goal

pub returns-in_err-receipt-clause-refused : goal.returns-in_err-receipt-clause-refused
returns-in_err-receipt-clause-refused c =
    let found = c.args.found.now in
    let within : c.loop-y.y-index < length c.args.found.now = search rules in
    let here : c.loop-y-item.result ≡ get_or c.args.found.now c.loop-y.y-index c.loop-y-item.result = search rules in
    let same : c.from_residual.result ≡ Err c.in_err-receipt.field-0.0 = search rules in
    subst (λ r. IfErr r (λ fault. RefusesOneOf c.args.own c.args.n (rows_of found) fault)) (sym same)
    (sender_refused c.args.own c.args.n found c.loop-y.y-index c.loop-y-item.result c.deref.result.now c.in_err-receipt.field-0.0 within here c.deref.ensures.value c.in_err-receipt.ensures.refused)

pub loop-y-preserved : goal.loop-y-preserved
loop-y-preserved c =
    let receipt = c.in_ok-receipt.receipt in
    let within : c.loop-y.y-index < length c.args.found.now = search rules in
    let here : c.loop-y-item.result ≡ get_or c.args.found.now c.loop-y.y-index c.loop-y-item.result = search rules in
    let spelled = subst (SpellsReceipt (receipt_record receipt)) c.deref.ensures.value c.in_ok-receipt.ensures.found in
    let one : IsSenderOf c.args.own c.args.n (c.loop-y-item.result.0, c.loop-y-item.result.1.items) (c.loop-y-item.result.0, receipt.from) = (receipt_record receipt, spelled, c.in_ok-receipt.ensures.of, refl) in
    rw c.in_ok-push.ensures.items (senders_more c.args.own c.args.n c.args.found.now c.loop-y.y-index c.loop-y-item.result c.loop-y.senders.items (c.loop-y-item.result.0, receipt.from) within here c.loop-y.invariant one)
