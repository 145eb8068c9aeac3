use Rattle.std.proofs.Common.{◌≡◌, ◌++◌, slice_index, string_bytes}
use Rattle.std.specs.List.{flat_map, range_with_len}
use Rattle.om_commands.specs.steps.Lines.{register_line}
use Rattle.om_commands.proofs.state_text.push_registers.Given as goal

-- the lines of the registers so far
abbrev pub invariant-loop-r : goal.invariant-loop-r
invariant-loop-r l = string_bytes l.text ≡ string_bytes l.initial.text ++ flat_map (λ r. register_line r (slice_index l.regs r)) (range_with_len 0 l.r)
