use Rattle.std.proofs.Common.{◌≡◌, ◌∙◌, ap, length, rules, subst, sym}
use Rattle.om_board.specs.Boards.{BoardState, IsBoard}
use Rattle.om_board.specs.Made.{HoldsMade}
use Rattle.om_manager.specs.State.{ManagerState, process_count, released_by}
use Rattle.om_following.proofs.FollowLemmas.{followed_met, released_more, stays_behind}
use Rattle.om_following.specs.steps.Lanes.{AreMore}
use Rattle.om_following.proofs.following.Following.take_in.Goals as goal

pub invariant_of-following : goal.invariant_of-following
invariant_of-following g c = record { many = search rules; few = search rules; behind = stays_behind _ c.meet-front.result.0 c.meet-front.ensures.last }

pub returns : goal.returns
returns g c = record {
  followed = λ start was wanted.
      let k = g.K.Naming in
      let self = c.args.self in
      let board = c.deref_mut-board.result.now in
      let lanes = self.lanes.items in
      let new = c.add_all-copied.new.lanes.items in
      let sound : IsBoard k.cell.n board = subst (IsBoard k.cell.n) c.meet-front.ensures.same c.manager.ensures.sound in
      let manager : c.manager.result.now ≡ board.manager = c.manager.ensures.manager ∙ ap (λ (b : BoardState). b.manager) c.meet-front.ensures.same in
      let size : length lanes ≡ process_count board.manager = sym self.lanes.ok.0 ∙ self.many ∙ sym sound.places in
      let more = released_more k.programs k.cell.n k.OverClean board.manager lanes new sound.manager size
      (λ clean. subst (λ (b : BoardState). HoldsMade k.programs k.cell.n b.manager) c.meet-front.ensures.same (c.manager.ensures.made clean))
      (subst (λ (m : ManagerState). AreMore (released_by m) lanes new) manager c.add_all-copied.ensures.more) in
      followed_met g.F.Follower.Tells k.OverClean k.programs k.cell.n board self.pass self.front c.meet-front.result.0 start lanes new self.follower sound self.behind
      c.meet-front.ensures.behind c.meet-front.ensures.manager more (was (λ same. wanted (c.fault_of_copy.ensures.unwanted same)));
}
