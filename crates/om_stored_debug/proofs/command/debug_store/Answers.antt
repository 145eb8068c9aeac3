use Rattle.std.proofs.Common.{◌≡◌, Err, rules}
use Rattle.std.proofs.lemmas.Result.{IfErr-weaker}
use Rattle.om_stored_debug.proofs.Showing.{served_store, serving_before, serving_shown, store_shown}
use Rattle.om_stored_debug.proofs.command.debug_store.Goals as goal

pub returns-clause-served : goal.returns-clause-served
returns-clause-served g c = λ known.
    served_store c.answer.result (g.S.Stable.content c.args.store.now) c.args.interval c.in_ok-debugger.debugger (g.P.Read.remaining c.args.packets.now) (g.P.Read.remaining c.answer.new.packets)
    (g.W.Write.contents c.args.writer.now) (g.W.Write.contents c.answer.new.writer) (c.in_ok-debugger.ensures.shown known) c.answer.ensures.served

pub returns-clause-error : goal.returns-clause-error
returns-clause-error g c = λ known.
    IfErr-weaker c.answer.result _ _ (λ error why. serving_shown (g.S.Stable.content c.args.store.now) c.args.interval error why) c.answer.ensures.error

pub returns-clause-silent : goal.returns-clause-silent
returns-clause-silent g c = IfErr-weaker c.answer.result _ _ (λ error why. serving_before _ error why) c.answer.ensures.error

pub returns-clause-unread : goal.returns-clause-unread
returns-clause-unread g c = IfErr-weaker c.answer.result _ _ (λ error why. serving_before _ error why) c.answer.ensures.error

pub returns-in_err-debugger-clause-error : goal.returns-in_err-debugger-clause-error
returns-in_err-debugger-clause-error g c = λ known.
    let same : c.from_residual.result ≡ Err c.in_err-debugger.field-0.0 = search rules in
    rw same (store_shown (g.S.Stable.content c.args.store.now) c.args.interval c.in_err-debugger.field-0.0 (c.in_err-debugger.ensures.error known))
