use Rattle.std.proofs.Common.{arith}
use Rattle.om_world.specs.World.{program_of}
use Rattle.om_world.proofs.Lists.{length-map}
use Rattle.om_world.proofs.stopped.Stopped.size.Goals as goal

pub returns-clause-some : goal.returns-clause-some
returns-clause-some g c =
    let h = c.self.invariant.world.shape in let some = h.manager.some in let size = h.size in
    let long = length-map program_of c.self.inside.images.items in let n = c.len.ensures in omega arith

pub returns-clause-few : goal.returns-clause-few
returns-clause-few g c =
    let h = c.self.invariant.world.shape in let few = h.few in
    let long = length-map program_of c.self.inside.images.items in let n = c.len.ensures in omega arith
