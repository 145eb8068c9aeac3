-- What is told of sends that were refused.
use Rattle.std.specs.Prelude.{ℕ, List, [], ◌++◌, codes, decimal, if◌then◌else◌, length, nat_eq, slice_index_or}
use Rattle.std.specs.List.{flat_map, range_with_len}
use Rattle.om_observers.specs.declared.sight.Sight.{Sight}
use Rattle.om_scripts.specs.Programs.{Cluster}
use Rattle.om_commands.specs.SimText.{name_at}
use Rattle.om_run_commands.specs.Trapped.{unseen}

-- the line of a process of which so many sends were refused, and nothing where none was
abbrev pub refused_line : List ℕ → ℕ → List ℕ
refused_line name count = if nat_eq count 0 then [] else name ++ (codes ": refused sends: " ++ (decimal count ++ codes "\n"))

-- by what was seen of each process, a line for each of which sends were refused, in their order
abbrev pub refused_sends_text : Cluster → List Sight → List ℕ
refused_sends_text cluster sights =
    flat_map (λ p. refused_line (name_at cluster p) (slice_index_or sights p unseen).refused) (range_with_len 0 (length sights))
