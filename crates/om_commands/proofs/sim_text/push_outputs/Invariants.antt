use Rattle.std.proofs.Common.{◌≡◌, ◌++◌, map, string_bytes}
use Rattle.std.specs.List.{flat_map, range_with_len}
use Rattle.om_manager.specs.Outputs.{held_of}
use Rattle.om_commands.specs.SimText.{output_line}
use Rattle.om_commands.specs.steps.Lines.{bytes_at}
use Rattle.om_commands.proofs.sim_text.push_outputs.Given as goal

-- the lines of the outputs so far
abbrev pub invariant-loop-number : goal.invariant-loop-number
invariant-loop-number l =
    string_bytes l.text
    ≡ string_bytes l.initial.text
    ++ flat_map (λ number. output_line l.form l.name number (bytes_at (map held_of l.outputs) number)) (range_with_len 0 l.number)
