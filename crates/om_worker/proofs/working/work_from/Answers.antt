use Rattle.std.proofs.Common.{rules}
use Rattle.om_worker.proofs.working.work_from.Goals as goal

pub take_turns-requires-clause-process : goal.take_turns-requires-clause-process
take_turns-requires-clause-process g c = record { own_is = search rules; program = search rules; size = search rules; clean = c.requires.clean }
