use Rattle.std.proofs.Common.{rules, ℕ, ◌<◌, length, subst, sym, ap, ◌∙◌}
use Rattle.om_check.specs.steps.Walks.{HasTaken, IsPassed, StaysAhead}
use Rattle.om_check.proofs.AtRest.{at_end}
use Rattle.om_check.proofs.Stuck.{goes_far}
use Rattle.om_check.proofs.Walking.{ahead_on, taken_on}
use Rattle.om_check.proofs.all.go_on.Goals as goal

pub returns-in_default-clause-ended : goal.returns-in_default-clause-ended
returns-in_default-clause-ended c =
    let passed : (p : ℕ) → p < c.args.n → IsPassed c.loop.trail.stage.world c.loop.walk c.args.n p = search rules in
    at_end c.args.trail.now.stage.world.programs c.loop.trail.stage.world c.loop.walk c.args.n c.loop.invariant.way
    (c.requires.all ∙ ap length (sym c.loop.invariant.way.these)) passed

pub loop-preserved : goal.loop-preserved
loop-preserved c =
    let way = (c.in_ok-take.ensures.run c.args.trail.now.stage.world.programs c.loop.invariant.way).0 in
    record {
      run = goes_far _ _ _ _ _ _ c.loop.invariant.run c.in_ok-take.ensures.run;
      way = way;
      taken = subst (HasTaken c.take.new.trail.stage.world) (sym c.in_ok-take.ensures.walk)
          (taken_on c.args.trail.now.stage.world.programs c.loop.trail.stage.world c.take.new.trail.stage.world c.loop.walk c.in-Some.delivery.from c.in-Some.delivery.to c.loop.invariant.way c.in_ok-take.ensures.taken c.loop.invariant.taken);
      ahead = subst (StaysAhead c.args.trail.now.stage.world.programs c.args.walk.now) (sym c.in_ok-take.ensures.walk)
          (ahead_on c.args.trail.now.stage.world.programs c.loop.trail.stage.world c.take.new.trail.stage.world c.args.walk.now c.loop.walk c.in-Some.delivery.from c.in-Some.delivery.to c.loop.invariant.way way c.in_ok-take.ensures.taken c.loop.invariant.taken c.loop.invariant.ahead);
    }
