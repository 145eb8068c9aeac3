use Rattle.std.proofs.Common.{◌≡◌, ◌∙◌, None, Some, length, subst, sym}
use Rattle.std.specs.Prelude.{IfOk}
use Rattle.om_report.specs.Telling.{Told}
use Rattle.om_threads.specs.steps.Ends.{AreParts}
use Rattle.om_threads.proofs.ReportLemmas.{of_report, told_report}
use Rattle.om_threads.proofs.followed.close.Goals as goal

pub returns-clause-told : goal.returns-clause-told
returns-clause-told g c = λ start was.
    let is_clean = g.O.Store.Stable.is_clean in
    let k = g.K.Naming in
    let images = c.args.cluster.now.config.now.images.items in
    let lines = c.args.cluster.now.inboxes.now in
    let brought = c.settled-statuses in
    let are = subst (λ r. IfOk r (AreParts is_clean images lines)) c.in-Ok.is c.requires.parts in
    let following = c.complete-following.result in
    let report = c.into_report.ensures in
    let long : length following.lanes.items ≡ k.cell.n = sym following.lanes.ok.0 ∙ following.many in
    of_report g.F.Follower.Tells k.OverClean k.programs c.into_report.result.0 brought.result.0 following.front start following.fault following.follower c.into_report.result.1
    report.statuses report.front report.unless report.follower
    (λ none. told_report g.F.Follower.Tells is_clean k.OverClean k.programs k.cell.n images lines c.in-Ok.parts brought.result.1 brought.result.0 start following.lanes.items following.follower following.front
    c.requires.named.run c.requires.named.many c.requires.named.clean are brought.ensures.harvests brought.ensures.statuses
    (c.complete-following.ensures.all none) (c.complete-following.ensures.brought none) long (c.complete-following.ensures.followed start was (λ same. cc)))

pub returns-clause-partly : goal.returns-clause-partly
returns-clause-partly g c = λ start was. c.into_report.ensures.partly start (c.complete-following.ensures.followed start was)
