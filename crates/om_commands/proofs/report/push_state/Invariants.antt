use Rattle.std.proofs.Common.{◌≡◌, ◌∷◌, ◌++◌, take, string_bytes, decimal}
use Rattle.std.specs.List.{flat_map}
use Rattle.om_commands.proofs.report.push_state.Given as goal

abbrev pub invariant-loop-interval : goal.invariant-loop-interval
invariant-loop-interval l = string_bytes l.text ≡ string_bytes l.initial.text ++ flat_map (λ interval. 32 ∷ decimal interval) (take l.interval-index l.interval-items)
