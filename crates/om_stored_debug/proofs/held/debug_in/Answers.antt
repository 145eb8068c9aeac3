use Rattle.std.proofs.Common.{◌≡◌, Err, rules}
use Rattle.std.proofs.lemmas.Result.{IfErr-weaker}
use Rattle.om_stored_debug.proofs.Holding.{refused_in, served_in, serving_in}
use Rattle.om_stored_debug.proofs.Showing.{serving_before}
use Rattle.om_stored_debug.proofs.held.debug_in.Goals as goal

pub returns-clause-served : goal.returns-clause-served
returns-clause-served g c =
    served_in c.answer.result c.args.bytes.now.file.items c.args.bytes.now.log.items c.args.interval c.in_ok-debugger.debugger (g.P.Read.remaining c.args.packets.now) (g.P.Read.remaining c.answer.new.packets)
    (g.W.Write.contents c.args.writer.now) (g.W.Write.contents c.answer.new.writer) c.in_ok-debugger.ensures.opened c.answer.ensures.served

pub returns-clause-error : goal.returns-clause-error
returns-clause-error g c =
    IfErr-weaker c.answer.result _ _ (λ error why. serving_in c.args.bytes.now.file.items c.args.bytes.now.log.items c.args.interval c.in_ok-debugger.debugger error c.in_ok-debugger.ensures.opened why) c.answer.ensures.error

pub returns-clause-silent : goal.returns-clause-silent
returns-clause-silent g c = IfErr-weaker c.answer.result _ _ (λ error why. serving_before _ error why) c.answer.ensures.error

pub returns-clause-unread : goal.returns-clause-unread
returns-clause-unread g c = IfErr-weaker c.answer.result _ _ (λ error why. serving_before _ error why) c.answer.ensures.error

pub returns-in_err-debugger-clause-error : goal.returns-in_err-debugger-clause-error
returns-in_err-debugger-clause-error g c =
    let same : c.from_residual.result ≡ Err c.in_err-debugger.field-0.0 = search rules in
    rw same (refused_in c.args.bytes.now.file.items c.args.bytes.now.log.items c.args.interval c.in_err-debugger.field-0.0 c.in_err-debugger.ensures.error)
