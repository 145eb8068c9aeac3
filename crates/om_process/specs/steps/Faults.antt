-- Why a process is not started, by the faults of its parts.
use Rattle.om_machine.specs.declared.fault.LoadFault.{LoadFault}
use Rattle.om_machine.specs.declared.fault.LoadFault.TheVariants as load_faults
use Rattle.om_stable.specs.declared.error.StoreError.{StoreError}
use Rattle.om_stable.specs.declared.error.StoreError.TheVariants as store_errors
use Rattle.om_process.specs.declared.start.StartFault.{StartFault}
use Rattle.om_process.specs.declared.start.StartFault.TheVariants.{BadSize, ImageTooLong, Present, Fault, Memory}

-- why a process is not started where its machine is not loaded
abbrev pub fault_of_loading : LoadFault → StartFault
fault_of_loading load_faults.ImageTooLong = ImageTooLong
fault_of_loading load_faults.BadSize = BadSize
fault_of_loading load_faults.Memory = Memory

-- why a process is not started where its store refused the checkpoint
abbrev pub fault_of_storing : StoreError → StartFault
fault_of_storing store_errors.Present = Present
fault_of_storing store_errors.Fault = Fault
fault_of_storing store_errors.Memory = Memory
