use Rattle.std.proofs.Common.{subst}
use Rattle.std.proofs.lemmas.Result.{IfErr-weaker}
use Rattle.om_stable.specs.Content.{rows_of}
use Rattle.om_look.specs.steps.Rowing.{RefusesOneOf}
use Rattle.om_look.proofs.RowsLemmas.{senders_refuse}
use Rattle.om_look.proofs.rows.stored_senders.Goals as goal

pub returns-clause-refused : goal.returns-clause-refused
returns-clause-refused g c = λ known.
    let held = g.S.Stable.content c.args.store.now in
    IfErr-weaker c.senders_in.result _ _ (λ fault why. senders_refuse c.args.own c.args.n 0 _ held fault
    (subst (λ rows. RefusesOneOf c.args.own c.args.n rows fault) (c.in_ok-found.ensures.found known)
    (subst (λ (es : _). RefusesOneOf c.args.own c.args.n (rows_of es) fault) c.deref.ensures.value why))) c.senders_in.ensures.refused
