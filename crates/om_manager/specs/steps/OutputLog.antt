use Rattle.std.specs.Prelude.{◌≡◌, ◌≢◌, ℕ, ◌<◌, ◌≤◌, List, [], ◌∷◌, ◌++◌, length, map, slice_get, All, Some, Result, Ok, Err}
use Rattle.std.specs.List.{AllWithin, HoldsAt}
use Rattle.om_manager.specs.Outputs.{HeldOutput, held_of, within, AreRising, AreNumbered}
use Rattle.om_manager.specs.declared.answers.OutputNote.{OutputNote}
use Rattle.om_manager.specs.declared.answers.OutputNote.TheVariants as kept
use Rattle.om_manager.specs.declared.answers.OutputError.{OutputError}
use Rattle.om_manager.specs.declared.answers.OutputError.TheVariants as refused
use Rattle.om_manager.specs.declared.output_log.Output.{Output}

-- the outputs of a process, and its place of the recovery state
pub record LogState : Type 0 where
  pub held : List HeldOutput
  pub limit : ℕ

-- so many of the outputs, from the first on, are those within the limit
pub record IsSplit (outputs : List HeldOutput) (released limit : ℕ) : Type 0 where
  pub among : released ≤ length outputs
  pub inside : AllWithin (λ output. output.interval ≤ limit) outputs 0 released
  pub beyond : released < length outputs → HoldsAt (λ output. limit < output.interval) outputs released

-- how the outputs of a process are kept
pub record IsLog (items : List Output) (released limit : ℕ) : Type 0 where
  pub numbered : AreNumbered items
  pub rising : AreRising (map held_of items)
  pub split : IsSplit (map held_of items) released limit

-- the log with one output more
abbrev pub log_with : LogState → HeldOutput → LogState
log_with log output = record { held = log.held ++ output ∷ []; limit = log.limit }

-- the log with another limit
abbrev pub log_to : LogState → ℕ → LogState
log_to log limit = record { held = log.held; limit = limit }

-- the log without the outputs beyond its limit
abbrev pub log_within : LogState → LogState
log_within log = record { held = within log.held log.limit; limit = log.limit }

-- none of the outputs was made after this interval
abbrev pub IsUpTo : LogState → ℕ → Type 0
IsUpTo log interval = All (λ output. output.interval ≤ interval) log.held

-- the output may be added under this number
pub record MayPush (log : LogState) (seq : ℕ) (output : HeldOutput) : Type 0 where
  pub next : seq ≡ length log.held
  pub latest : IsUpTo log output.interval

-- it is not the output of this number, or, as the next one, was made before one that is there
pub data Clashes (log : LogState) (seq : ℕ) (output : HeldOutput) : Type 0 where
  other : seq < length log.held → slice_get log.held seq ≢ Some output → Clashes log seq output
  earlier : seq ≡ length log.held → (IsUpTo log output.interval → ⊥) → Clashes log seq output

-- the answer to an output that is offered under a number, and the log after it
abbrev pub LogNotes : LogState → ℕ → HeldOutput → Result OutputNote OutputError → LogState → Type 0
LogNotes old seq output (Ok kept.Known) new = (slice_get old.held seq ≡ Some output) × (new ≡ old)
LogNotes old seq output (Ok kept.Released) new =
    MayPush old seq output × (output.interval ≤ old.limit) × (new ≡ log_with old output)
LogNotes old seq output (Ok kept.Held) new = MayPush old seq output × (old.limit < output.interval) × (new ≡ log_with old output)
LogNotes old seq output (Err refused.Stranger) new = ⊥
LogNotes old seq output (Err (refused.Stale told)) new = ⊥
LogNotes old seq output (Err refused.Differs) new = Clashes old seq output × (new ≡ old)
LogNotes old seq output (Err (refused.Gap next)) new = (next ≡ length old.held) × (next < seq) × (new ≡ old)
LogNotes old seq output (Err refused.Memory) new = MayPush old seq output × (new ≡ old)
