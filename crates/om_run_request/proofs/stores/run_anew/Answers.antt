use Rattle.om_run_request.proofs.AskedLemmas.{answered_along, refused_along}
use Rattle.om_run_request.proofs.stores.run_anew.Goals as goal

pub returns-clause-text : goal.returns-clause-text
returns-clause-text g c =
    let told = c.run_watched in
    answered_along _ ⊥ (λ no. absurd no) (g.I.Read.remaining c.args.reader.now) told.result.0 c.args.job.running
    (g.W.Write.contents c.args.writer) (g.W.Write.contents told.result.1) told.ensures.text

pub returns-clause-partly : goal.returns-clause-partly
returns-clause-partly g c follows =
    let told = c.run_watched in
    refused_along _ ⊥ (λ no. absurd no) (g.I.Read.remaining c.args.reader.now) told.result.0 c.args.job.running
    (g.W.Write.contents c.args.writer) (g.W.Write.contents told.result.1) (told.ensures.partly follows)
