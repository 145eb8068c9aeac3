-- Whom a fault names.
use Rattle.std.specs.Prelude.{◌≡◌, ℕ, ◌<◌, Option, None, Some, IfSome}
use Rattle.om_report.specs.declared.fault.RunFault.{RunFault}
use Rattle.om_report.specs.declared.fault.RunFault.TheVariants.{Turns, GateShut, Fault, Load, StoreInUse, AnotherCluster, StoreMissing}

-- the process that a fault names, if it names one
abbrev pub process_of_fault : RunFault → Option ℕ
process_of_fault (Turns pid) = Some pid
process_of_fault (GateShut pid) = Some pid
process_of_fault (Fault pid) = Some pid
process_of_fault (Load pid) = Some pid
process_of_fault (StoreInUse pid) = Some pid
process_of_fault (AnotherCluster pid) = Some pid
process_of_fault (StoreMissing pid) = Some pid
process_of_fault _ = None

-- the fault is of one of n processes, or of none
abbrev pub IsFaultOf : ℕ → RunFault → Type 0
IsFaultOf n fault = IfSome (process_of_fault fault) (λ pid. pid < n)

-- the fault is of this process, or of none
abbrev pub IsFaultBy : ℕ → RunFault → Type 0
IsFaultBy own fault = IfSome (process_of_fault fault) (λ pid. pid ≡ own)
