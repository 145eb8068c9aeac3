-- Events of a process and nothing else.
use Rattle.std.specs.Prelude.{List, ℕ, Result, Ok, Err, if◌then◌else◌, codes}
use Rattle.std.specs.Str.{bytes_eq}
use Rattle.om_text.specs.Reading.{◌>>=◌}
use Rattle.om_text.specs.declared.error.LineError.{LineError}
use Rattle.om_text.specs.declared.error.LineError.TheVariants.{UnknownLine}
use Rattle.om_world.specs.declared.event.Event.{Event}
use Rattle.om_world.specs.declared.event.Event.TheVariants.{Checkpoint, Spell, Fail, Join, Resume, Resend, Trim}
use Rattle.om_commands.specs.Events.{flush_line, process_in}

-- the event of a line that names a process alone
abbrev pub event_at : List ℕ → List (List ℕ) → Result Event LineError
event_at first words =
    if bytes_eq first (codes "flush") then flush_line words
    else (if bytes_eq first (codes "checkpoint") then (process_in words >>= λ p. Ok (Checkpoint p))
    else (if bytes_eq first (codes "spell") then (process_in words >>= λ p. Ok (Spell p))
    else (if bytes_eq first (codes "fail") then (process_in words >>= λ p. Ok (Fail p))
    else (if bytes_eq first (codes "join") then (process_in words >>= λ p. Ok (Join p))
    else (if bytes_eq first (codes "resume") then (process_in words >>= λ p. Ok (Resume p))
    else (if bytes_eq first (codes "resend") then (process_in words >>= λ p. Ok (Resend p))
    else (if bytes_eq first (codes "trim") then (process_in words >>= λ p. Ok (Trim p))
    else Err UnknownLine)))))))
