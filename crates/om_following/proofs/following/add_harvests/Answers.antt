use Rattle.std.proofs.Common.{sym, subst}
use Rattle.std.specs.Prelude.{slice_index}
use Rattle.om_report.specs.Released.{AreAllMade, AreAllReleased}
use Rattle.om_following.proofs.FollowLemmas.{brought_more, have_none_more}
use Rattle.om_report.proofs.ReleasedLemmas.{numbered_of}
use Rattle.om_following.proofs.following.add_harvests.Goals as goal

pub add_brought-requires-clause-numbered : goal.add_brought-requires-clause-numbered
add_brought-requires-clause-numbered g c = λ p outputs at.
    let recovery = c.args.board.now.manager.recovery in
    let are = subst (AreAllReleased recovery) (sym c.deref.ensures.value) c.in_ok-brought.ensures.released in
    numbered_of (slice_index recovery p) outputs.items (are p outputs at)

pub returns-in_err-brought-clause-more : goal.returns-in_err-brought-clause-more
returns-in_err-brought-clause-more g c =
    have_none_more g.K.Naming.programs g.K.Naming.cell.n g.K.Naming.OverClean c.args.board.now.manager.recovery c.args.lanes.now.items

pub returns-clause-more : goal.returns-clause-more
returns-clause-more g c =
    let recovery = c.args.board.now.manager.recovery in
    let k = g.K.Naming in
    brought_more k.programs k.cell.n k.OverClean recovery c.deref.result.now c.args.lanes.now.items c.add_brought.new.lanes.items
    (subst (AreAllReleased recovery) (sym c.deref.ensures.value) c.in_ok-brought.ensures.released)
    (λ clean. subst (AreAllMade k.programs k.cell.n) (sym c.deref.ensures.value) (c.in_ok-brought.ensures.made clean)) c.add_brought.ensures.more
