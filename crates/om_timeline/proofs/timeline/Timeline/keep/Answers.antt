use Rattle.std.proofs.Common.{refl}
use Rattle.om_timeline.proofs.Keeping.{kept_tried}
use Rattle.om_timeline.proofs.timeline.Timeline.keep.Goals as goal

pub invariant_of-self-in-Ok-2 : goal.invariant_of-self-in-Ok-2
invariant_of-self-in-Ok-2 c =
    let here = c.self.inside.here in
    let at = c.self.inside.at in
    kept_tried c.insert.result c.self.inside.tape here.machine here.own here.n at.event at.turns c.up_to-place.result c.self.inside.stages.items c.insert.new.self.items (record { machine = c.in-Ok.machine; at = at })
    c.insert.ensures.items c.self.invariant c.in-Ok.ensures refl refl
