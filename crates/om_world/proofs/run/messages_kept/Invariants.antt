use Rattle.std.proofs.Common.{◌≡◌, length}
use Rattle.om_interval.specs.declared.pid.TheConstants.{MAX_PROCESSES}
use Rattle.om_world.proofs.Sending.{AreCounted}
use Rattle.om_world.proofs.run.messages_kept.Given as goal

abbrev pub invariant-loop-to : goal.invariant-loop-to
invariant-loop-to l = (length l.counts ≡ MAX_PROCESSES) × AreCounted l.core l.counts l.to
