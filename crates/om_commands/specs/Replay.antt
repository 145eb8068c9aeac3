-- What the command `replay` answers to the content of a store and an interval.
use Rattle.std.specs.Prelude.{◌≡◌, ℕ, List, Bool, Result, IfErr}
use Rattle.om_stable.specs.Content.{Content}
use Rattle.om_process.specs.Core.{CoreState}
use Rattle.om_process.specs.Stored.{anyone, CanReplay, IsReplay, Refuses}
use Rattle.om_process.specs.declared.replay.ReplayFault.TheVariants as replaying
use Rattle.om_commands.specs.StateText.{state_text}
use Rattle.om_commands.specs.declared.error.CommandError.{CommandError}
use Rattle.om_commands.specs.declared.error.CommandError.TheVariants as errors
use Rattle.om_stable.specs.Calls.{IsCleanCall}

-- the text of the process that is replayed to the interval
abbrev pub IsReplayText : Content → ℕ → List ℕ → Type 0
IsReplayText held x text = (core : CoreState) × IsReplay held x core × (text ≡ state_text core)

-- the errors that the content does not tell: those of the store, the writer and memory
abbrev pub IsNoMatterOfContent : CommandError → Type 0
IsNoMatterOfContent errors.StoreFault = Unit {0}
IsNoMatterOfContent errors.NoMemory = Unit {0}
IsNoMatterOfContent errors.CannotWrite = Unit {0}
IsNoMatterOfContent _ = ⊥

-- The error is that of the content, or one that it does not tell; the writer's comes only where the process can be replayed.
abbrev pub IsReplayError : Content → ℕ → CommandError → Type 0
IsReplayError held x errors.NoCheckpoint = Refuses anyone held x replaying.NoCheckpoint
IsReplayError held x (errors.Damaged y) = Refuses anyone held x (replaying.Damaged y)
IsReplayError held x (errors.MissingReceipt y) = Refuses anyone held x (replaying.MissingReceipt y)
IsReplayError held x (errors.Mismatch y) = Refuses anyone held x (replaying.Mismatch y)
IsReplayError held x errors.CannotWrite = CanReplay anyone held x
IsReplayError held x error = IsNoMatterOfContent error

-- a clean call that is refused gives the error of the content
abbrev pub TellsReplayError : {S A : Type 0} → (S → Content) → (S → Bool) → (S → Type 0) → ℕ → S → Result A CommandError → S → Type 0
TellsReplayError content is_clean IsSound x old result new = IsCleanCall is_clean IsSound old new → IfErr result (IsReplayError (content old) x)

-- a clean call whose process can be replayed is refused for no matter of the content
abbrev pub RefusesForNoContent : {S A : Type 0} → (S → Content) → (S → Bool) → (S → Type 0) → ℕ → S → Result A CommandError → S → Type 0
RefusesForNoContent content is_clean IsSound x old result new =
    IsCleanCall is_clean IsSound old new → CanReplay anyone (content old) x → IfErr result IsNoMatterOfContent
