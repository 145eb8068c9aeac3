use Rattle.std.proofs.Common.{◌≡◌, Err, rules}
use Rattle.om_stored_timeline.proofs.Placing.{last_refused}
use Rattle.om_stored_timeline.proofs.standing.at_last.Goals as goal

pub returns-in_err-x-clause-refused : goal.returns-in_err-x-clause-refused
returns-in_err-x-clause-refused g c = λ known.
    let same : c.from_residual.result ≡ Err c.in_err-x.field-0.0 = search rules in
    last_refused (g.S.Stable.content c.args.store.now) c.from_residual.result c.in_err-x.field-0.0 same (c.in_err-x.ensures.refused known)
