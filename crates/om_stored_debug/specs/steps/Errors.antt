-- What may be wrong while packets are answered.
use Rattle.om_commands.specs.declared.error.CommandError.{CommandError}
use Rattle.om_commands.specs.declared.error.CommandError.TheVariants as errors

abbrev pub IsErrorOfServing : CommandError → Type 0
IsErrorOfServing errors.CannotRead = Unit {0}
IsErrorOfServing errors.CannotWrite = Unit {0}
IsErrorOfServing errors.NoMemory = Unit {0}
IsErrorOfServing error = ⊥
