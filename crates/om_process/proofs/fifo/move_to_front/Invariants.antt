use Rattle.om_process.proofs.Fifos.{IsMovedUpTo}
use Rattle.om_process.proofs.fifo.move_to_front.Given as goal

-- so many are moved
abbrev pub invariant-loop-k : goal.invariant-loop-k
invariant-loop-k g l = IsMovedUpTo l.fn.items.items l.items.items l.from l.k
