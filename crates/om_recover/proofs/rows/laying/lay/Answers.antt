use Rattle.std.proofs.Common.{refl, subst}
use Rattle.om_recover.specs.steps.Logs.{IsLaid}
use Rattle.om_recover.specs.declared.rows.trees.Logs.{Logs}
use Rattle.om_recover.specs.declared.rows.trees.Vectors.{Vectors}
use Rattle.om_recover.proofs.PlaceLemmas.{put_of}
use Rattle.om_recover.proofs.RunLemmas.{laid_in_run, laid_in_tree, laid_again, same_logs, after_error}
use Rattle.om_recover.proofs.rows.laying.lay.Goals as goal

pub push-requires : goal.push-requires
push-requires c = rw c.deref.ensures.value at (c.if-may_follow.ensures refl)

pub returns-in_err-push-clause-err : goal.returns-in_err-push-clause-err
returns-in_err-push-clause-err c =
    let after : Logs = record { runs = c.push.new.runs; others = c.args.logs.now.others } in
    after_error c.from_residual.result _ (same_logs c.args.logs.now after c.requires.logs refl c.in_err-push.ensures.err)

pub gather-requires : goal.gather-requires
gather-requires c =
    let middle : Logs = record { runs = c.push.new.runs; others = c.args.logs.now.others } in
    (laid_in_run c.args.logs.now middle _ _ _ c.requires.logs c.requires.free refl c.in_ok-push.ensures.ok).sorted

pub returns-then-may_follow-clause-ok : goal.returns-then-may_follow-clause-ok
returns-then-may_follow-clause-ok c =
    let middle : Logs = record { runs = c.push.new.runs; others = c.args.logs.now.others } in
    laid_again c.args.logs.now middle c.gather.new.logs _ _ _ (laid_in_run c.args.logs.now middle _ _ _ c.requires.logs c.requires.free refl c.in_ok-push.ensures.ok) c.gather.ensures

pub returns-clause-ok : goal.returns-clause-ok
returns-clause-ok c =
    let after : Logs = record { runs = c.args.logs.now.runs; others = c.insert.new.self } in
    let updates = c.in_ok-insert.ensures.updates in
    subst (λ (vectors : Vectors). IsLaid c.args.logs.now after c.args.pid c.args.x vectors) c.kept.ensures
    (laid_in_tree c.args.logs.now after _ _ _ c.requires.logs c.requires.free refl (put_of _ _ _ _ c.kept.result c.in_ok-insert.ensures.ordered updates.1 updates.2))
