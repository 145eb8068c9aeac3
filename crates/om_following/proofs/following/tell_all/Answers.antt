use Rattle.std.proofs.Common.{◌∙◌, rules}
use Rattle.om_following.proofs.FollowLemmas.{have_paused, have_then}
use Rattle.om_following.proofs.following.tell_all.Goals as goal

pub returns-then-not-tell_rest-clause-copied : goal.returns-then-not-tell_rest-clause-copied
returns-then-not-tell_rest-clause-copied g c = c.tell_rest.ensures.copied ∙ c.tell_in_order.ensures.copied

pub returns-clause-copied : goal.returns-clause-copied
returns-clause-copied g c = c.tell_rest.ensures.copied ∙ c.tell_in_order.ensures.copied

pub returns-clause-told : goal.returns-clause-told
returns-clause-told g c = λ yes.
    let tells = g.F.Follower.Tells in
    let first = c.args.lanes.now.items in let mid = c.tell_in_order.new.lanes.items in let last = c.tell_rest.new.lanes.items in
    have_paused tells first last c.args.follower.now c.tell_rest.new.follower c.pause.new.self
    (have_then tells first mid last c.args.follower.now c.tell_in_order.new.follower c.tell_rest.new.follower (c.tell_in_order.ensures.told (search rules)) (c.tell_rest.ensures.told (search rules)))
    (c.pause.ensures.same yes)
