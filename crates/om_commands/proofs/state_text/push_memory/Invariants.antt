use Rattle.std.proofs.Common.{◌≡◌, ◌++◌, ◌*◌, string_bytes}
use Rattle.std.specs.List.{flat_map, range_with_len}
use Rattle.om_commands.specs.steps.Lines.{memory_line}
use Rattle.om_commands.specs.declared.state_text.TheConstants.{ROW_BYTES}
use Rattle.om_commands.proofs.state_text.push_memory.Given as goal

-- the lines of the memory so far
abbrev pub invariant-loop-row : goal.invariant-loop-row
invariant-loop-row l = string_bytes l.text ≡ string_bytes l.initial.text ++ flat_map (λ row. memory_line l.memory (row * ROW_BYTES)) (range_with_len 0 l.row)
