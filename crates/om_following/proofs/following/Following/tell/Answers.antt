use Rattle.std.proofs.Common.{◌∙◌, sym}
use Rattle.om_following.proofs.FollowLemmas.{followed_told}
use Rattle.om_following.proofs.following.Following.tell.Goals as goal

pub returns-clause-followed : goal.returns-clause-followed
returns-clause-followed g c = λ start was wanted.
    let k = g.K.Naming in
    let self = c.args.self in
    followed_told g.F.Follower.Tells k.OverClean k.programs k.cell.n self.front.vec start self.lanes.items c.tell_all-goes_on.new.lanes.items self.follower c.tell_all-goes_on.new.follower
    (c.tell_all-goes_on.ensures.told (c.fault_of_wish.ensures.on wanted)) c.tell_all-goes_on.ensures.copied (was (λ same. wanted (c.fault_of_wish.ensures.same wanted ∙ same)))

pub returns-clause-all : goal.returns-clause-all
returns-clause-all g c = λ none. c.tell_all-goes_on.ensures.all (c.fault_of_wish.ensures.on (λ same. cc))

pub returns-clause-fault : goal.returns-clause-fault
returns-clause-fault g c = λ none. sym (c.fault_of_wish.ensures.same (λ same. cc)) ∙ none
