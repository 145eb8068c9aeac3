use Rattle.std.proofs.Common.{rules, ◌≡◌, subst}
use Rattle.om_check.specs.steps.Playing.{StandsAs, StandsIn}
use Rattle.om_check.proofs.resting.end_of.Goals as goal

pub loop-p-preserved : goal.loop-p-preserved
loop-p-preserved c = c.in-Some.ensures.some c.args.world.now c.loop-p.p c.args.n c.loop-p.invariant
    (subst (λ k. StandsAs c.args.world.now k c.args.n c.in_ok-rest.rest) c.at.ensures c.in_ok-rest.ensures)

pub returns-clause-some : goal.returns-clause-some
returns-clause-some c =
    let at : c.loop-p.p ≡ c.args.n = search rules in
    subst (StandsIn c.args.world.now c.loop-p.end) at c.loop-p.invariant
