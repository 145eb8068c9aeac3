use Rattle.std.proofs.Common.{◌≡◌, ◌≢◌, ◌∙◌, ℕ, List, length, ap, subst, sym}
use Rattle.std.specs.Prelude.{IfErr}
use Rattle.om_board.specs.CellNames.{CellName}
use Rattle.om_following.proofs.FollowLemmas.{told_at_start}
use Rattle.om_process.specs.Process.{Program}
use Rattle.om_report.specs.Telling.{AreInOrder, AreToldMade, Told}
use Rattle.om_following.specs.declared.follower.FollowFault.TheVariants.{Unwanted}
use Rattle.om_following.specs.Following.{IsTold}
use Rattle.om_threads.proofs.followed.run_named.Goals as goal

pub returns-clause-told : goal.returns-clause-told
returns-clause-told g c =
    let following = c.in-Ok-new.following in
    let k = g.K.Naming in
    let start = told_at_start g.F.Follower.Tells k.OverClean k.programs k.cell.n following.front.vec c.args.follower following.lanes.items c.requires.start c.in-Ok-new.ensures.none in
    let first = subst (λ f. IsTold g.F.Follower.Tells k.OverClean k.programs k.cell.n following.front.vec c.args.follower following.lanes.items f) (sym c.in-Ok-new.ensures.follower) start in
    c.close.ensures.told c.args.follower (c.run_workers-parts.ensures.beside c.args.follower (λ wanted. first))

pub returns-clause-partly : goal.returns-clause-partly
returns-clause-partly g c =
    let following = c.in-Ok-new.following in
    let k = g.K.Naming in
    let start = told_at_start g.F.Follower.Tells k.OverClean k.programs k.cell.n following.front.vec c.args.follower following.lanes.items c.requires.start c.in-Ok-new.ensures.none in
    let first = subst (λ f. IsTold g.F.Follower.Tells k.OverClean k.programs k.cell.n following.front.vec c.args.follower following.lanes.items f) (sym c.in-Ok-new.ensures.follower) start in
    let images = c.args.config.now.images.items in
    let n_is : k.cell.n ≡ length images = ap (λ (cell : CellName). cell.n) (sym c.requires.named) ∙ c.requires.size in
    let Partly : List Program → ℕ → Type 0 = λ ps n. IfErr c.close.result.0 (λ fault. fault ≢ Unwanted → (told : List Told) × g.F.Follower.Tells c.args.follower c.close.result.1 told
    × AreInOrder told × (k.OverClean → AreToldMade ps n told)) in
    subst (λ ps. Partly ps (length images)) c.requires.programs
    (subst (Partly k.programs) n_is (c.close.ensures.partly c.args.follower (c.run_workers-parts.ensures.beside c.args.follower (λ wanted. first))))
