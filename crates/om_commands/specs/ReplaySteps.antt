-- What the command `replay` answers with a number of steps.
use Rattle.std.specs.Prelude.{◌≡◌, ℕ, ◌<◌, ◌≤◌, List, [], ◌++◌, Bool, MatchBool, None}
use Rattle.om_look.specs.Trace.{IsTrace}
use Rattle.om_stable.specs.Content.{Content}
use Rattle.om_process.specs.Core.{CoreState, cluster_size, core_turn, with_now}
use Rattle.om_process.specs.Stored.{IsReplay}
use Rattle.om_process.specs.Turns.{Turns}
use Rattle.om_commands.specs.StateText.{state_text}

-- so many turns of the core lead to another, at most this number, and fewer only where there is no further one; with their lines, if there
-- is to be a trace
pub record TakesSteps (steps : ℕ) (traced : Bool) (start end : CoreState) (lines : List ℕ) : Type 0 where
  pub taken : ℕ
  pub within : taken ≤ steps
  pub turns : Turns start.own (cluster_size start.now) taken start.now end.now
  pub no_more : taken < steps → core_turn end ≡ None
  pub rest : end ≡ with_now start end.now
  pub are_lines : MatchBool traced (IsTrace start.own (cluster_size start.now) taken start.now end.now lines) (lines ≡ [])

-- the text of the process that goes on from the interval to which it is replayed
abbrev pub IsStepsText : Content → ℕ → ℕ → Bool → List ℕ → Type 0
IsStepsText held x steps traced text =
    (start : CoreState) × IsReplay held x start × (end : CoreState) × (lines : List ℕ) × TakesSteps steps traced start end lines
    × (text ≡ lines ++ state_text end)
