use Rattle.std.proofs.Common.{subst}
use Rattle.std.proofs.lemmas.Result.{IfErr-weaker}
use Rattle.om_process.specs.steps.Rows.{RefusesCheckpoint}
use Rattle.om_process.proofs.StoredLemmas.{start_refused}
use Rattle.om_stored_timeline.proofs.reading.beginning.Goals as goal

pub returns-in-Ok-Some-clause-refused : goal.returns-in-Ok-Some-clause-refused
returns-in-Ok-Some-clause-refused g c = λ known.
    let held = g.S.Stable.content c.args.store.now in
    let effective = rw c.in-Ok-Some.field-0-is at (c.in-Ok-Some.ensures.effective known) in
    let there = rw c.in-Ok-Some.field-0-is at (c.in-Ok-Some.ensures.bytes known) in
    IfErr-weaker c.checkpoint_at.result _ _ (λ fault why. start_refused held c.args.x c.in-Ok-Some.c c.in-Ok-Some.bytes.items fault effective there (subst (λ bs. RefusesCheckpoint c.in-Ok-Some.c bs fault) c.deref.ensures.value why)) c.checkpoint_at.ensures.refused
