use Rattle.om_explore_command.proofs.DifferenceLemmas.{one_more_same}
use Rattle.std.proofs.Common.{arith, refl}
use Rattle.om_explore_command.proofs.difference.output_place.Goals as goal

pub loop-process-preserved : goal.loop-process-preserved
loop-process-preserved c =
    one_more_same c.args.one.now c.args.other.now c.loop-process.process c.index-one-process.result c.index-other-process.result
    c.deref.result.now c.deref-in-loop-process.result.now (omega arith) (omega arith) c.index-one-process.is c.index-other-process.is c.deref.ensures.value
    c.deref-in-loop-process.ensures.value (c.in_default.ensures.none refl) c.loop-process.invariant
