use Rattle.om_restart.proofs.SenderLemmas.{GoOnUpTo}
use Rattle.om_restart.proofs.receiving.add_following.Given as goal

abbrev pub invariant-loop-interval : goal.invariant-loop-interval
invariant-loop-interval l = GoOnUpTo l.interval-index l.received l.fn.senders.items l.senders.items
