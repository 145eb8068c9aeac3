use Rattle.std.proofs.Common.{refl, ◌∙◌}
use Rattle.om_format.specs.CheckpointViews.{checkpoint_record}
use Rattle.om_stored_timeline.proofs.Placing.{last_as}
use Rattle.om_stored_timeline.proofs.standing.last_along.Goals as goal

pub returns : goal.returns
returns c = λ held begins is.
    last_as held (checkpoint_record c.args.checkpoint.now) c.follow.new.self.interval c.new-follower.result c.follow.new.self c.args.rows.now.items begins is c.in_ok-follow.ensures
    c.new-follower.ensures.own (c.new-follower.ensures.n ∙ c.n-n.ensures.places) c.new-follower.ensures.interval (c.new-follower.ensures.machine ∙ c.in_ok-machine.ensures) refl
