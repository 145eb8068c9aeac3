use Rattle.om_inferiors.specs.steps.Sending.{AreFirstSent}
use Rattle.om_inferiors.proofs.monitor.all_to_event.Given as goal

abbrev pub invariant-loop-place : goal.invariant-loop-place
invariant-loop-place l = AreFirstSent l.event l.place l.initial.all l.all
