use Rattle.om_threads.specs.steps.Ends.{AreBelow, IsFirstOut, IsWellOrOut}
use Rattle.om_threads.proofs.results.fault_of.Given as goal

abbrev pub invariant-loop-i : goal.invariant-loop-i
invariant-loop-i g l = AreBelow IsWellOrOut l.i l.results × IsFirstOut l.results l.i l.last
