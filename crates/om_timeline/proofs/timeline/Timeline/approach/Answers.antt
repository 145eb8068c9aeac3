use Rattle.std.proofs.Common.{refl}
use Rattle.om_timeline.proofs.timeline.Timeline.approach.Goals as goal

pub returns-then-is_up_to-clause-stays : goal.returns-then-is_up_to-clause-stays
returns-then-is_up_to-clause-stays c = (c.args.self.now.event, c.args.self.now.turns, refl)
