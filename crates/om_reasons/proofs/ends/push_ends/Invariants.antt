use Rattle.std.proofs.Common.{◌≡◌, ◌++◌, string_bytes}
use Rattle.std.specs.Prelude.{slice_index_or}
use Rattle.std.specs.List.{flat_map, range_with_len}
use Rattle.om_commands.specs.SimText.{name_at}
use Rattle.om_reasons.specs.Ends.{doing_line, unseen}
use Rattle.om_reasons.proofs.ends.push_ends.Given as goal

-- the lines of the processes so far
abbrev pub invariant-loop-p : goal.invariant-loop-p
invariant-loop-p l =
    string_bytes l.text
    ≡ string_bytes l.initial.text
    ++ flat_map (λ p. doing_line (name_at l.programs p) (slice_index_or l.sights p unseen).doing) (range_with_len 0 l.p)
