use Rattle.std.proofs.Common.{subst}
use Rattle.om_world.specs.steps.Members.{sound_in}
use Rattle.om_world.specs.steps.Sound.{HasShape}
use Rattle.om_world.proofs.Undamaged.{stands}
use Rattle.om_world.proofs.stopped.Stopped.told.Goals as goal

pub returns-clause-shape : goal.returns-clause-shape
returns-clause-shape g c = subst HasShape c.self.view_is c.self.invariant.world.shape

pub returns-clause-stands : goal.returns-clause-stands
returns-clause-stands g c = λ known run left. (stands (sound_in g.S.Stable.IsSound) _ _ c.args.self.now run c.self.invariant.world c.self.view_is known left).1
