use Rattle.std.proofs.Common.{refl}
use Rattle.om_timeline.proofs.timeline.Timeline.go_to.Goals as goal

pub returns-then-to-deeds-clause-stays : goal.returns-then-to-deeds-clause-stays
returns-then-to-deeds-clause-stays c = (c.args.self.now.event, c.args.self.now.turns, refl)

pub returns-then-to-turns_at-clause-stays : goal.returns-then-to-turns_at-clause-stays
returns-then-to-turns_at-clause-stays c = (c.args.self.now.event, c.args.self.now.turns, refl)
