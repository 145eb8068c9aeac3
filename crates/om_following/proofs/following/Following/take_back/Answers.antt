use Rattle.std.proofs.Common.{rules, subst}
use Rattle.om_board.specs.Boards.{BoardState, IsBoard}
use Rattle.om_following.proofs.FollowLemmas.{followed_met, stays_behind}
use Rattle.om_following.specs.steps.Lanes.{HaveMore}
use Rattle.om_following.proofs.following.Following.take_back.Goals as goal

pub invariant_of-following : goal.invariant_of-following
invariant_of-following g c = record { many = search rules; few = search rules; behind = stays_behind _ c.meet-front.result.0 c.meet-front.ensures.last }

pub returns-clause-followed : goal.returns-clause-followed
returns-clause-followed g c = λ start was wanted.
    let k = g.K.Naming in
    let self = c.args.self in
    let board = c.deref_mut-board.result.now in
    let lanes = self.lanes.items in
    let new = c.add_harvests-copied.new.lanes.items in
    let sound : IsBoard k.cell.n board = subst (IsBoard k.cell.n) c.meet-front.ensures.same c.manager.ensures.sound in
    let more = subst (λ (b : BoardState). HaveMore k.programs k.cell.n k.OverClean b.manager.recovery lanes new) c.meet-front.ensures.same c.add_harvests-copied.ensures.more in
    followed_met g.F.Follower.Tells k.OverClean k.programs k.cell.n board self.pass self.front c.meet-front.result.0 start lanes new self.follower sound self.behind
    c.meet-front.ensures.behind c.meet-front.ensures.manager more (was (λ same. wanted (c.fault_of_copy.ensures.unwanted same)))
