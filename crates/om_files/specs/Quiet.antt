-- Errors before anything is written, and connections without a transaction.
use Rattle.std.specs.Prelude.{◌≡◌, ◌⊎◌, false}
use Rattle.om_commands.specs.declared.error.CommandError.{CommandError}
use Rattle.om_commands.specs.declared.error.CommandError.TheVariants.{NoMemory, StoreFault}
use Rattle.sqlite.specs.Held.{Held}

-- the error is of the store, or of memory
abbrev pub IsQuiet : CommandError → Type 0
IsQuiet error = (error ≡ StoreFault) ⊎ (error ≡ NoMemory)

-- no transaction is under way
abbrev pub IsIdle : {S : Type 0} → Held S → Type 0
IsIdle conn = conn.in_transaction ≡ false
