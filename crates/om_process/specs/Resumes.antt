-- Processes after a round of recovery.
use Rattle.std.specs.Prelude.{ℕ, List}
use Rattle.om_process.specs.Core.{CoreState}

-- the core once it knows this round and these starts
abbrev pub resumed : CoreState → ℕ → List (List ℕ) → CoreState
resumed c round starts = record c { round = round; starts = starts }
