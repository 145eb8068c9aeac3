use Rattle.std.proofs.Common.{arith, ◌≡◌, ◌∙◌, sym, length}
use Rattle.std.specs.FinMap as map
use Rattle.om_stable.specs.Content.{with_all, bytes_of}
use Rattle.std.proofs.lemmas.Bool.{eqb-true}
use Rattle.om_stable.proofs.RunLemmas.{appended, empty_run, nothing_added}
use Rattle.om_stable.proofs.record_run.RecordRun.append.Goals as goal
use Rattle.om_stable.proofs.record_run.RecordRun.append.Goals.{then-len-eq0, else-len-eq0}

pub returns-then-is_empty-clause-put : goal.returns-then-is_empty-clause-put
returns-then-is_empty-clause-put c = nothing_added c.args.self.now c.args.first c.args.recs.now (eqb-true (length c.args.recs.now) 0 (sym c.is_empty.ensures ∙ c.if-is_empty.true))

pub returns-clause-put : goal.returns-clause-put
returns-clause-put c =
    let run = c.if-len-eq0.self-inside in
    let is : with_all map.empty run.first run.records ≡ c.args.self.now = elim c.if-len-eq0.branch [
      | then-len-eq0 w ↦ rw w.self-inside-is (empty_run w.from-self-inside.result c.self.inside.first c.self.inside.records c.args.self.now (sym c.len.ensures ∙ w.if-len-eq0.true) c.self.view_is)
      | else-len-eq0 w ↦ rw w.self-inside-is c.self.view_is
    ] in
    appended run.first run.records c.args.self.now is (bytes_of c.args.recs.now) c.push_all.new.self c.args.first
    c.in_ok-push_all.ensures.ok (omega (arith, c.from.ensures, c.len-2.ensures))
