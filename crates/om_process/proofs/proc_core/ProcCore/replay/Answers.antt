use Rattle.std.proofs.Common.{◌≡◌, rules, sym, subst}
use Rattle.std.specs.Prelude.{Err, IfErr}
use Rattle.std.proofs.lemmas.Result.{IfErr-weaker}
use Rattle.om_format.specs.CheckpointViews.{checkpoint_record}
use Rattle.om_process.specs.Stored.{anyone, IsNoMatterOfContent}
use Rattle.om_process.specs.steps.Rows.{RefusesFrom}
use Rattle.om_process.proofs.Exactly.{only_refused}
use Rattle.om_process.proofs.StoredLemmas.{refused_at_start, refused_from}
use Rattle.om_process.proofs.proc_core.ProcCore.replay.Goals as goal

pub returns-in_err-checkpoint-clause-only : goal.returns-in_err-checkpoint-clause-only
returns-in_err-checkpoint-clause-only g c =
    let same : c.from_residual.result ≡ Err c.in_err-checkpoint.field-0.0 = search rules in
    λ known can.
    let held = g.S.Stable.content c.args.store.now in
    subst (λ r. IfErr r (λ fault. IsNoMatterOfContent fault)) (sym same)
    (only_refused anyone held c.args.x c.in_err-checkpoint.field-0.0 (refused_at_start anyone held c.args.x c.in_err-checkpoint.field-0.0 (c.in_err-checkpoint.ensures.refused known)) can)

pub returns-clause-refused : goal.returns-clause-refused
returns-clause-refused g c = λ known.
    let held = g.S.Stable.content c.args.store.now in
    let checkpoint = checkpoint_record c.in_ok-checkpoint.checkpoint in
    let first = c.replay_from.ensures.used.clean known.0 in
    let begins = c.in_ok-checkpoint.ensures.begins (first, known.1) in
    let same = c.in_ok-checkpoint.ensures.same (first, known.1) in
    IfErr-weaker c.replay_from.result _ _ (λ fault why. refused_from anyone held c.args.x checkpoint fault begins (subst (λ h. RefusesFrom h c.args.x checkpoint fault) same why))
    (c.replay_from.ensures.refused (known.0, c.in_ok-checkpoint.ensures.used.sound first known.1) begins.effective.within)

pub returns-clause-only : goal.returns-clause-only
returns-clause-only g c = λ known can.
    let held = g.S.Stable.content c.args.store.now in
    let checkpoint = checkpoint_record c.in_ok-checkpoint.checkpoint in
    let first = c.replay_from.ensures.used.clean known.0 in
    let begins = c.in_ok-checkpoint.ensures.begins (first, known.1) in
    let same = c.in_ok-checkpoint.ensures.same (first, known.1) in
    IfErr-weaker c.replay_from.result _ _ (λ fault why. only_refused anyone held c.args.x fault (refused_from anyone held c.args.x checkpoint fault begins (subst (λ h. RefusesFrom h c.args.x checkpoint fault) same why)) can)
    (c.replay_from.ensures.refused (known.0, c.in_ok-checkpoint.ensures.used.sound first known.1) begins.effective.within)
