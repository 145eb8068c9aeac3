use Rattle.om_explore_command.specs.Differences.{PutOutSameUpTo}
use Rattle.om_explore_command.specs.steps.{held}
use Rattle.om_explore_command.proofs.difference.output_place.Given as goal

abbrev pub invariant-loop-process : goal.invariant-loop-process
invariant-loop-process l = PutOutSameUpTo (held l.one) (held l.other) l.process
