-- The error of a command whose files cannot be made.
use Rattle.om_commands.specs.declared.error.CommandError.{CommandError}
use Rattle.om_commands.specs.declared.error.CommandError.TheVariants.{NoMemory, StoreFault}
use Rattle.om_store_files.specs.declared.places.PlaceError.{PlaceError}
use Rattle.om_store_files.specs.declared.places.PlaceError.TheVariants as places

-- the stores of a cluster cannot be made
abbrev pub error_of_place : PlaceError → CommandError
error_of_place (places.Taken name) = StoreFault
error_of_place (places.Empty name) = StoreFault
error_of_place (places.NotMade name error) = StoreFault
error_of_place places.Memory = NoMemory
