use Rattle.std.proofs.Common.{◌≡◌, ◌<◌, ℕ, Some}
use Rattle.om_debug_command.specs.Symbols.{program_at_place}
use Rattle.om_debug_command.proofs.symbols.is_run.Given as goal

-- none of those before runs it
abbrev pub invariant-loop-process : goal.invariant-loop-process
invariant-loop-process l = (place : ℕ) → place < l.process → program_at_place l.programs place ≡ Some l.program → ⊥
