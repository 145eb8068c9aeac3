-- How a run's caller is told why a process does not start, or does not go on.
use Rattle.std.specs.Prelude.{ℕ}
use Rattle.om_node.specs.declared.worker_fault.WorkerFault.{WorkerFault}
use Rattle.om_node.specs.declared.worker_fault.WorkerFault.TheVariants as working
use Rattle.om_process.specs.declared.start.StartFault.{StartFault}
use Rattle.om_process.specs.declared.start.StartFault.TheVariants as starting
use Rattle.om_report.specs.declared.fault.RunFault.{RunFault}
use Rattle.om_report.specs.declared.fault.RunFault.TheVariants as running
use Rattle.om_cluster.specs.declared.opener.OpenFault.{OpenFault}
use Rattle.om_cluster.specs.declared.opener.OpenFault.TheVariants as opening

-- the store of a process was not made
abbrev pub refusal_of_opening : OpenFault → ℕ → RunFault
refusal_of_opening opening.Memory pid = running.Memory
refusal_of_opening opening.Refused pid = running.Load pid
refusal_of_opening opening.InUse pid = running.StoreInUse pid

-- the process was not started over its store
abbrev pub refusal_of_start : StartFault → ℕ → RunFault
refusal_of_start starting.Memory pid = running.Memory
refusal_of_start starting.Fault pid = running.Fault pid
refusal_of_start _ pid = running.Load pid

-- the fault of a run in which the worker of a process cannot go on
abbrev pub refusal_of_worker : WorkerFault → ℕ → RunFault
refusal_of_worker working.Memory pid = running.Memory
refusal_of_worker working.Refused pid = running.Fault pid
