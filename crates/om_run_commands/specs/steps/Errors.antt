-- The errors of a run, as a command tells them.
use Rattle.om_check.specs.declared.fault.PlayFault.{PlayFault}
use Rattle.om_check.specs.declared.fault.PlayFault.TheVariants as playing
use Rattle.om_report.specs.declared.fault.RunFault.{RunFault}
use Rattle.om_report.specs.declared.fault.RunFault.TheVariants as running
use Rattle.om_commands.specs.declared.error.CommandError.{CommandError}
use Rattle.om_commands.specs.declared.error.CommandError.TheVariants.{NoMemory, StoreFault, StoreInUse, AnotherCluster, StoreMissing, OutOfTurns, GateShut, NoThread, Unlike}

-- the run of a cluster came to no end
abbrev pub error_of_run : RunFault → CommandError
error_of_run (running.Turns pid) = OutOfTurns
error_of_run (running.GateShut pid) = GateShut
error_of_run running.Memory = NoMemory
error_of_run (running.Fault pid) = StoreFault
error_of_run (running.Load pid) = StoreFault
error_of_run (running.StoreInUse pid) = StoreInUse pid
error_of_run (running.AnotherCluster pid) = AnotherCluster pid
error_of_run (running.StoreMissing pid) = StoreMissing pid
error_of_run running.NoThread = NoThread

-- the run without failures was not played: its witnesses name none, or memory ran out
abbrev pub error_of_play : PlayFault → CommandError
error_of_play (playing.NotSent pid) = Unlike
error_of_play (playing.NotWaiting pid) = Unlike
error_of_play (playing.Spent pid) = Unlike
error_of_play (playing.NotEnded pid) = Unlike
error_of_play playing.Memory = NoMemory
