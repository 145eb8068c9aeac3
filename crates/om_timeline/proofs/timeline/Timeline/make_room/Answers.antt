use Rattle.om_timeline.proofs.Keeping.{kept_fewer}
use Rattle.om_timeline.proofs.timeline.Timeline.make_room.Goals as goal

pub invariant_of-self : goal.invariant_of-self
invariant_of-self c =
    let here = c.self.inside.here in
    kept_fewer c.self.inside.tape here.machine here.own here.n c.self.inside.at.event c.self.inside.at.turns c.self.inside.stages.items c.thin.new.stages.items c.self.invariant c.thin.ensures
