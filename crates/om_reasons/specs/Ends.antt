-- What is told of processes that have ended.
use Rattle.std.specs.Prelude.{ℕ, List, [], ◌++◌, length, slice_index_or, codes, decimal, None}
use Rattle.std.specs.List.{flat_map, range_with_len}
use Rattle.om_process.specs.declared.status.Status.{Status}
use Rattle.om_process.specs.declared.status.Status.TheVariants.{Ended}
use Rattle.om_observers.specs.declared.sight.Doing.{Doing}
use Rattle.om_observers.specs.declared.sight.Doing.TheVariants.{Up, Begins}
use Rattle.om_observers.specs.declared.sight.Sight.{Sight}
use Rattle.om_scripts.specs.Programs.{Cluster}
use Rattle.om_commands.specs.SimText.{name_at}

-- the line of a process with a status that has ended, and nothing of another
abbrev pub status_line : List ℕ → Status → List ℕ
status_line name (Ended code) = name ++ codes ": ended " ++ decimal code ++ codes "\n"
status_line name _ = []

-- the line of a process that does this, where it has ended, and nothing else
abbrev pub doing_line : List ℕ → Doing → List ℕ
doing_line name (Up status) = status_line name status
doing_line name _ = []

-- a process of which nothing was seen
abbrev pub unseen : Sight
unseen = record { doing = Begins; interval = 0; count = 0; pc = 0; refused = 0; put = 0; taken = 0; front = None }

-- by what was seen of each process, a line for each that has ended, in their order
abbrev pub ends_text : Cluster → List Sight → List ℕ
ends_text cluster sights =
    flat_map (λ p. doing_line (name_at cluster p) (slice_index_or sights p unseen).doing) (range_with_len 0 (length sights))
