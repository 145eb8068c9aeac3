use Rattle.std.proofs.Common.{rules}
use Rattle.om_check.specs.Whole.{IsDone}
use Rattle.om_check.proofs.Ending.{up_to_next}
use Rattle.om_check.proofs.playing.all_done.Goals as goal

pub loop-p-preserved : goal.loop-p-preserved
loop-p-preserved c =
    let now : IsDone c.args.world.now c.loop-p.p = search rules in
    up_to_next (IsDone c.args.world.now) c.loop-p.p c.loop-p.invariant now
