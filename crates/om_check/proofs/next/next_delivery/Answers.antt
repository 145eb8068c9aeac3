use Rattle.std.proofs.Common.{rules}
use Rattle.om_check.specs.steps.Walks.{IsPassed}
use Rattle.om_check.proofs.Ending.{up_to_next}
use Rattle.om_check.proofs.next.next_delivery.Goals as goal

pub loop-p-preserved : goal.loop-p-preserved
loop-p-preserved c =
    let now : IsPassed c.args.world.now c.args.walk.now c.args.n c.loop-p.p = search rules in
    up_to_next (IsPassed c.args.world.now c.args.walk.now c.args.n) c.loop-p.p c.loop-p.invariant now
