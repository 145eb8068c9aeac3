use Rattle.std.proofs.Common.{◌≡◌, ◌+◌, ◌++◌, string_bytes}
use Rattle.std.specs.Prelude.{slice_get}
use Rattle.std.specs.List.{flat_map, range_with_len}
use Rattle.om_explore_command.specs.ExplorationText.{difference_text}
use Rattle.om_explore_command.proofs.text.push_differences.Given as goal

-- the lines so far
abbrev pub invariant-loop-k : goal.invariant-loop-k
invariant-loop-k l =
    string_bytes l.text
    ≡ string_bytes l.initial.text
    ++ flat_map (λ k. difference_text l.form l.programs (k + 1) (slice_get l.found 0) (slice_get l.found k) (slice_get l.places k)) (range_with_len 0 l.k)
