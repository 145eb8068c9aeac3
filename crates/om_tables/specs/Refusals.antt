-- What a database answers where it refuses a statement, and what a store tells of it.
use Rattle.std.specs.Prelude.{◌≡◌, ◌≢◌, Option, Some, IsSome}
use Rattle.sqlite.specs.declared.error.Error.TheVariants.{SqliteFailure}
use Rattle.sqlite.specs.declared.error.ErrorCode.TheVariants as code
use Rattle.om_stable.specs.declared.error.StoreError.{StoreError}
use Rattle.om_stable.specs.declared.error.StoreError.TheVariants.{Fault, Memory}
use Rattle.om_tables.specs.declared.refusal.Refusal.{Refusal}

-- memory ran out
abbrev pub out_of_memory : Refusal
out_of_memory = record { error = SqliteFailure code.OutOfMemory }

-- a call tells a fault, or want of memory, exactly as the last refusal of the database has it
pub record TellsRefusal (last : Option Refusal) (error : Option StoreError) : Type 0 where
  pub fault : error ≡ Some Fault → IsSome last × (last ≢ Some out_of_memory)
  pub memory : error ≡ Some Memory → last ≡ Some out_of_memory
