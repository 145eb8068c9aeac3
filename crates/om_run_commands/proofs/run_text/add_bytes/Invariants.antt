use Rattle.std.proofs.Common.{◌≡◌, ◌++◌, map, take}
use Rattle.om_manager.specs.Outputs.{held_of}
use Rattle.om_run_commands.specs.RunText.{bytes_of}
use Rattle.om_run_commands.proofs.run_text.add_bytes.Given as goal

-- the bytes of the outputs so far
abbrev pub invariant-loop-output : goal.invariant-loop-output
invariant-loop-output l = l.bytes.items ≡ l.initial.bytes.items ++ bytes_of (map held_of (take l.output-index l.outputs))
