-- The errors of a command, by those of its parts.
use Rattle.om_text.specs.declared.error.BuildError.{BuildError}
use Rattle.om_text.specs.declared.error.BuildError.TheVariants as building
use Rattle.om_text.specs.declared.error.ScriptError.{ScriptError}
use Rattle.om_text.specs.declared.text.ReadError.{ReadError}
use Rattle.om_text.specs.declared.text.ReadError.TheVariants as reading
use Rattle.om_process.specs.declared.replay.ReplayFault.{ReplayFault}
use Rattle.om_process.specs.declared.replay.ReplayFault.TheVariants as replaying
use Rattle.om_commands.specs.declared.error.CommandError.{CommandError}
use Rattle.om_commands.specs.declared.error.CommandError.TheVariants.{TooLong, CannotRead, NoMemory, Script, NoCheckpoint, Damaged, MissingReceipt, Mismatch, StoreFault}
use Rattle.om_look.specs.declared.fault.LookFault.{LookFault}
use Rattle.om_look.specs.declared.fault.LookFault.TheVariants as looking

-- the input could not be had
abbrev pub error_of_reading : ReadError → CommandError
error_of_reading reading.TooLong = TooLong
error_of_reading reading.CannotRead = CannotRead
error_of_reading reading.Memory = NoMemory

-- the script could not be read
abbrev pub error_of_building : BuildError ScriptError → CommandError
error_of_building (building.Invalid error) = Script error
error_of_building building.Memory = NoMemory

-- the process could not be replayed
abbrev pub error_of_replay : ReplayFault → CommandError
error_of_replay replaying.NoCheckpoint = NoCheckpoint
error_of_replay (replaying.Damaged y) = Damaged y
error_of_replay (replaying.MissingReceipt y) = MissingReceipt y
error_of_replay (replaying.Mismatch y) = Mismatch y
error_of_replay replaying.Fault = StoreFault
error_of_replay replaying.Memory = NoMemory

-- the store was not looked into
abbrev pub error_of_look : LookFault → CommandError
error_of_look looking.Fault = StoreFault
error_of_look looking.Memory = NoMemory
