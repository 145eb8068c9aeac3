-- What the lines mean that tell what is to happen to a world.
use Rattle.std.specs.Prelude.{ℕ, List, [], ◌∷◌, Option, Result, Ok, Err, if◌then◌else◌, codes}
use Rattle.std.specs.Str.{bytes_eq}
use Rattle.om_text.specs.Numbers.{number_of, long_number_of}
use Rattle.std.specs.Option.{ok_or}
use Rattle.om_text.specs.Reading.{◌>>=◌}
use Rattle.om_text.specs.declared.error.LineError.{LineError}
use Rattle.om_text.specs.declared.error.LineError.TheVariants.{UnknownLine, WrongCount, BadNumber}
use Rattle.om_world.specs.declared.event.Event.{Event}
use Rattle.om_world.specs.declared.event.Event.TheVariants.{Run, Give, Flush, FlushFirst, Checkpoint, Spell, Fail, Join, Resume, Resend, Trim, Prune, Restart}

-- the process that the one word stands for
abbrev pub process_in : List (List ℕ) → Result ℕ LineError
process_in (word ∷ []) = ok_or (number_of word) BadNumber
process_in _ = Err WrongCount

-- an event of a process and one more number, by the words behind the first
abbrev pub event_of_two : (ℕ → ℕ → Event) → (List ℕ → Option ℕ) → List (List ℕ) → Result Event LineError
event_of_two event read (process ∷ other ∷ []) = do
  p ← ok_or (number_of process) BadNumber
  k ← ok_or (read other) BadNumber
  Ok (event p k)
event_of_two event read _ = Err WrongCount

-- an event of the whole, which no word follows
abbrev pub alone : Event → List (List ℕ) → Result Event LineError
alone event [] = Ok event
alone event _ = Err WrongCount

-- `flush`, by the words behind it: a process, and how many receipts where not all are meant
abbrev pub flush_line : List (List ℕ) → Result Event LineError
flush_line (process ∷ []) = (process_in (process ∷ []) >>= λ p. Ok (Flush p))
flush_line words = event_of_two FlushFirst number_of words

-- the event of a line, by its first word and those behind it
abbrev pub event_line : List ℕ → List (List ℕ) → Result Event LineError
event_line first words =
    if bytes_eq first (codes "run") then event_of_two Run long_number_of words
    else (if bytes_eq first (codes "give") then event_of_two Give number_of words
    else (if bytes_eq first (codes "prune") then alone Prune words
    else (if bytes_eq first (codes "restart") then alone Restart words
    else (if bytes_eq first (codes "flush") then flush_line words
    else (if bytes_eq first (codes "checkpoint") then (process_in words >>= λ p. Ok (Checkpoint p))
    else (if bytes_eq first (codes "spell") then (process_in words >>= λ p. Ok (Spell p))
    else (if bytes_eq first (codes "fail") then (process_in words >>= λ p. Ok (Fail p))
    else (if bytes_eq first (codes "join") then (process_in words >>= λ p. Ok (Join p))
    else (if bytes_eq first (codes "resume") then (process_in words >>= λ p. Ok (Resume p))
    else (if bytes_eq first (codes "resend") then (process_in words >>= λ p. Ok (Resend p))
    else (if bytes_eq first (codes "trim") then (process_in words >>= λ p. Ok (Trim p))
    else Err UnknownLine)))))))))))
