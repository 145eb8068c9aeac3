-- The text of a core that goes on.
use Rattle.std.specs.Prelude.{◌≡◌, ℕ, List, ◌++◌, Bool}
use Rattle.om_process.specs.Core.{CoreState}
use Rattle.om_commands.specs.StateText.{state_text}
use Rattle.om_commands.specs.ReplaySteps.{TakesSteps}

-- the text of a core that goes on
abbrev pub IsTextBehind : CoreState → ℕ → Bool → List ℕ → Type 0
IsTextBehind start steps traced text =
    (end : CoreState) × (lines : List ℕ) × TakesSteps steps traced start end lines × (text ≡ lines ++ state_text end)
