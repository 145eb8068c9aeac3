use Rattle.std.proofs.Common.{◌≡◌, [], map, if◌then◌else◌}
use Rattle.std.specs.Prelude.{slice_index_or}
use Rattle.std.specs.List.{flat_map, range_with_len}
use Rattle.std.specs.Str.{bytes_eq}
use Rattle.om_manager.specs.Outputs.{held_of}
use Rattle.om_commands.specs.SimText.{name_at}
use Rattle.om_run_commands.specs.RunText.{bytes_of}
use Rattle.om_run_commands.proofs.run_text.raw_text.Given as goal

-- the bytes of the processes so far
abbrev pub invariant-loop-p : goal.invariant-loop-p
invariant-loop-p l =
    l.bytes.items
    ≡ flat_map (λ p. if bytes_eq (name_at l.programs p) l.name then bytes_of (slice_index_or (map (λ outputs. map held_of outputs.items) l.released) p []) else [])
    (range_with_len 0 l.p)
