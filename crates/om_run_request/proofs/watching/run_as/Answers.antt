use Rattle.std.proofs.Common.{ap}
use Rattle.std.specs.Prelude.{IsTrue}
use Rattle.om_run_request.proofs.AskedLemmas.{run_error, run_partly, run_text}
use Rattle.om_run_request.proofs.watching.run_as.Goals as goal

pub returns-clause-text : goal.returns-clause-text
returns-clause-text g c =
    let run = c.run_asked-outcome in
    run_text (g.I.Read.remaining c.args.reader.now) run.result.0 c.ended-ended.result c.judged.result tt c.args.running
    ((store : g.row.O-Store.Denot) → IsTrue (g.O.Store.Stable.is_clean store)) (g.W.Write.contents c.args.writer)
    (g.W.Write.contents c.new.result.to) (g.W.Write.contents run.result.1.to) c.ended-ended.ensures c.judged.ensures
    (ap g.W.Write.contents c.new.ensures.to) run.ensures.text

pub returns-clause-error : goal.returns-clause-error
returns-clause-error g c =
    let run = c.run_asked-outcome in
    run_error (g.I.Read.remaining c.args.reader.now) run.result.0 c.ended-ended.result c.judged.result tt c.args.running
    c.ended-ended.ensures c.judged.ensures run.ensures.error

pub returns-clause-partly : goal.returns-clause-partly
returns-clause-partly g c follows =
    let run = c.run_asked-outcome in
    run_partly (g.I.Read.remaining c.args.reader.now) run.result.0 c.ended-ended.result c.judged.result tt c.args.running
    ((store : g.row.O-Store.Denot) → IsTrue (g.O.Store.Stable.is_clean store)) (g.W.Write.contents c.args.writer)
    (g.W.Write.contents c.new.result.to) (g.W.Write.contents run.result.1.to) c.ended-ended.ensures c.judged.ensures
    (ap g.W.Write.contents c.new.ensures.to) (run.ensures.partly follows)
