use Rattle.om_world.proofs.Framing.{AreAdded}
use Rattle.om_world.proofs.frames.add_frames.Given as goal

abbrev pub invariant-loop-k : goal.invariant-loop-k
invariant-loop-k l = AreAdded l.fn.frames.items l.core l.to l.few l.k l.frames.items
