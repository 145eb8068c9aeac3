use Rattle.std.proofs.Common.{rules}
use Rattle.om_check.proofs.Stuck.{goes_far}
use Rattle.om_check.proofs.Walking.{walk_more}
use Rattle.om_check.proofs.all.repeat.Goals as goal

pub loop-choice-preserved : goal.loop-choice-preserved
loop-choice-preserved c = record {
  run = goes_far _ _ _ _ _ _ c.loop-choice.invariant.run c.in_ok-make.ensures.run;
  way = (c.in_ok-make.ensures.run c.args.trail.now.stage.world.programs c.loop-choice.invariant.way).0;
  walk = walk_more c.args.walk.now c.loop-choice.walk c.make.new.walk c.args.choices.now c.loop-choice.choice-index c.choice-item.result (search rules)
      c.choice-item.is c.loop-choice.invariant.walk c.in_ok-make.ensures.walk;
  taken = c.in_ok-make.ensures.taken;
}
