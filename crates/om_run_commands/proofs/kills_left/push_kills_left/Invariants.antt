use Rattle.std.proofs.Common.{◌≡◌, [], ◌++◌, string_bytes}
use Rattle.std.specs.Prelude.{if◌then◌else◌, slice_index_or}
use Rattle.std.specs.List.{flat_map, range_with_len}
use Rattle.om_commands.specs.SimText.{name_at}
use Rattle.om_run_commands.specs.KillsLeft.{is_left, left_line}
use Rattle.om_run_commands.proofs.kills_left.push_kills_left.Given as goal

-- the lines of the kills so far
abbrev pub invariant-loop-i : goal.invariant-loop-i
invariant-loop-i l =
    string_bytes l.text
    ≡ string_bytes l.initial.text
    ++ flat_map (λ i. let kill = slice_index_or l.kills i (0, 0) in if is_left l.kills l.failures i then left_line (name_at l.programs kill.0) kill.1 else [])
    (range_with_len 0 l.i)
