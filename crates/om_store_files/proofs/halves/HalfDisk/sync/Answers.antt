use Rattle.om_store_files.proofs.halves.HalfDisk.sync.Goals as goal

pub returns-in-Log-clause-durable : goal.returns-in-Log-clause-durable
returns-in-Log-clause-durable c = rw c.in-Log.is c.sync.ensures.durable
