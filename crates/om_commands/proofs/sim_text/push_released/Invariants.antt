use Rattle.std.proofs.Common.{◌≡◌, ◌++◌, string_bytes}
use Rattle.std.specs.List.{flat_map, range_with_len}
use Rattle.om_commands.specs.steps.Lines.{released_text}
use Rattle.om_commands.proofs.sim_text.push_released.Given as goal

-- the lines of the processes so far
abbrev pub invariant-loop-p : goal.invariant-loop-p
invariant-loop-p l = string_bytes l.text ≡ string_bytes l.initial.text ++ flat_map (released_text l.form l.programs l.manager) (range_with_len 0 l.p)
