use Rattle.om_store_files.proofs.halves.HalfDisk.read_at.Goals as goal

pub returns-in-File-clause-read : goal.returns-in-File-clause-read
returns-in-File-clause-read c = rw c.in-File.is c.read_at-in-File.ensures.read
