-- What is told of kills that did not come. A kill is a process and an interval, and so is a failure.
use Rattle.std.specs.Prelude.{ℕ, List, [], ◌∷◌, ◌++◌, ◌==◌, Bool, ◌&&◌, codes, count_by, decimal, if◌then◌else◌, length, nat_le, slice_index_or, take}
use Rattle.std.specs.List.{flat_map, range_with_len}
use Rattle.om_scripts.specs.Programs.{Cluster}
use Rattle.om_commands.specs.SimText.{name_at}

abbrev pub is_same : ℕ × ℕ → ℕ × ℕ → Bool
is_same kill other = (kill.0 == other.0) && (kill.1 == other.1)

-- whether a kill did not come that stands behind these: no more failures are like it than kills before it
abbrev pub is_left_after : List (ℕ × ℕ) → ℕ × ℕ → List (ℕ × ℕ) → Bool
is_left_after before kill failures = nat_le (count_by (is_same kill) failures) (count_by (is_same kill) before)

-- whether kill i of these did not come
abbrev pub is_left : List (ℕ × ℕ) → List (ℕ × ℕ) → ℕ → Bool
is_left kills failures i = is_left_after (take i kills) (slice_index_or kills i (0, 0)) failures

-- the line of a kill that did not come
abbrev pub left_line : List ℕ → ℕ → List ℕ
left_line name interval = codes "kill " ++ (name ++ (32 ∷ (decimal interval ++ codes ": did not come\n")))

-- a line for each kill that did not come, in their order
abbrev pub kills_left_text : Cluster → List (ℕ × ℕ) → List (ℕ × ℕ) → List ℕ
kills_left_text cluster kills failures =
    flat_map (λ i. let kill = slice_index_or kills i (0, 0) in if is_left kills failures i then left_line (name_at cluster kill.0) kill.1 else [])
    (range_with_len 0 (length kills))
