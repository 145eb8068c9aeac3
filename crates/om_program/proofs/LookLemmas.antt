-- Errors of looks that no content of a store tells.
use Rattle.std.proofs.Common.{inl}
use Rattle.om_arguments.specs.declared.look_requests.Look.{Look}
use Rattle.om_arguments.specs.declared.look_requests.Look.TheVariants as looks
use Rattle.om_commands.specs.declared.error.CommandError.TheVariants as errors
use Rattle.om_program.specs.Answers.{IsLookError}

pub no_memory : (look : Look) → IsLookError look errors.NoMemory
no_memory (looks.Show file bodies) = tt
no_memory (looks.Replay file interval short) = inl tt
no_memory (looks.Steps file interval steps traced short) = inl tt
