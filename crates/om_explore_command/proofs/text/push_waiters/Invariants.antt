use Rattle.std.proofs.Common.{◌≡◌, ◌++◌, string_bytes}
use Rattle.std.specs.Prelude.{slice_index_or}
use Rattle.std.specs.List.{flat_map, range_with_len}
use Rattle.om_process.specs.declared.status.Status.TheVariants.{Ready}
use Rattle.om_explore_command.specs.ExplorationText.{waiter_text}
use Rattle.om_explore_command.proofs.text.push_waiters.Given as goal

-- the names of those so far
abbrev pub invariant-loop-p : goal.invariant-loop-p
invariant-loop-p l =
    string_bytes l.text
    ≡ string_bytes l.initial.text
    ++ flat_map (λ p. waiter_text l.programs p (slice_index_or l.statuses p Ready)) (range_with_len 0 l.p)
