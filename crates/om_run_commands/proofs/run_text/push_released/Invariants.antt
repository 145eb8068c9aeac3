use Rattle.std.proofs.Common.{◌≡◌, [], ◌++◌, map, string_bytes}
use Rattle.std.specs.Prelude.{slice_index_or}
use Rattle.std.specs.List.{flat_map, range_with_len}
use Rattle.om_manager.specs.Outputs.{held_of}
use Rattle.om_commands.specs.SimText.{name_at, outputs_text}
use Rattle.om_run_commands.proofs.run_text.push_released.Given as goal

-- the lines of the processes so far
abbrev pub invariant-loop-p : goal.invariant-loop-p
invariant-loop-p l =
    string_bytes l.text
    ≡ string_bytes l.initial.text
    ++ flat_map (λ p. outputs_text l.form (name_at l.programs p) (slice_index_or (map (λ outputs. map held_of outputs.items) l.released) p []))
    (range_with_len 0 l.p)
