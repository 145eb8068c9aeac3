use Rattle.std.proofs.Common.{subst}
use Rattle.om_explore_command.specs.Outcomes.{IsOutcome}
use Rattle.om_explore_command.proofs.gathering.GatheringVisitor.visit.Goals as goal

pub returns-clause-seen : goal.returns-clause-seen
returns-clause-seen g c runs tally =
    let live = c.args.run.world.live in
    c.in_ok-add.ensures g.J.Subject.cluster runs live
    (subst (λ cluster. IsOutcome cluster live c.in_ok-outcome.outcome) c.args.self.now.named c.in_ok-outcome.ensures) tally
