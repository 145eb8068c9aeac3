-- A world at its start, and why there is none.
use Rattle.std.specs.Prelude.{◌≡◌, ℕ, ◌<◌, ◌≤◌, List, [], length, replicate, slice_get, Bool, IsSome, IsTrue, None, Some, false}
use Rattle.std.specs.FinMap.{get}
use Rattle.om_isa.specs.Memory.{IsMemorySize}
use Rattle.om_stable.specs.Calls.{IsCleanCall}
use Rattle.om_stable.specs.Content.{Content}
use Rattle.om_stable.specs.Count.{Rose}
use Rattle.om_process.specs.declared.start.StartFault.{StartFault}
use Rattle.om_process.specs.declared.start.StartFault.TheVariants.{BadPlace, BadSize, ImageTooLong, Present, Fault, Memory}
use Rattle.om_process.specs.Process.{Program}
use Rattle.om_process.specs.Core.{CoreState}
use Rattle.om_process.specs.Starting.{started_core}
use Rattle.om_process.specs.Stores.{HasGainedCheckpoint}
pub use Rattle.om_take_up.specs.Anew.{IsNew}
use Rattle.om_world.specs.declared.process_state.ProcessState.{ProcessState}
use Rattle.om_world.specs.World.{WorldState}

-- each process is up at its program's start, and nothing was sent or received
pub record IsStarted (given : List Program) (w : WorldState) : Type 0 where
  pub programs : w.programs ≡ given
  pub live : w.live ≡ []
  pub frames : w.frames ≡ []
  pub many : length w.cores ≡ length given
  pub cores : (p : ℕ) (program : Program) → slice_get given p ≡ Some program
      → slice_get w.cores p ≡ Some (Some (started_core program p (length given)))
  pub places : w.places ≡ replicate (length given) ProcessState.Up
  pub rounds : w.rounds ≡ replicate (length given) 0
  pub manager : IsNew (length given) w.manager
  pub since : w.since ≡ record { before = []; stored = false }

-- each store had no checkpoint of interval 0, and has gained its process's first checkpoint and nothing else
abbrev pub HaveFirst : WorldState → Type 0
HaveFirst w = (p : ℕ) (c : CoreState) (before : Content) → slice_get w.cores p ≡ Some (Some c) → slice_get w.origins p ≡ Some before
    → (after : Content) × (slice_get w.contents p ≡ Some after) × (get before.checkpoints 0 ≡ None) × HasGainedCheckpoint c before after

-- a machine is loaded with the program
pub record IsLoadable (program : Program) : Type 0 where
  pub size : IsMemorySize program.size
  pub fits : length program.image ≤ program.size

-- why a process of this program was not started over a store, by the store before and after
abbrev pub IsWhy : {S : Type 0} → (S → Content) → (S → ℕ) → (S → Bool) → (S → Type 0) → Program → StartFault → S → S → Type 0
IsWhy content failed is_clean IsSound program BadPlace before after = ⊥
IsWhy content failed is_clean IsSound program BadSize before after = ¬ IsMemorySize program.size
IsWhy content failed is_clean IsSound program ImageTooLong before after = IsMemorySize program.size × (program.size < length program.image)
IsWhy content failed is_clean IsSound program Present before after =
    IsCleanCall is_clean IsSound before after → IsSome (get (content before).checkpoints 0)
IsWhy content failed is_clean IsSound program Fault before after = Rose (failed before) (failed after)
IsWhy content failed is_clean IsSound program Memory before after = Unit {0}

-- a process was not started for this fault, and is the first
pub record IsRefusedAt {S : Type 0} (content : S → Content) (failed : S → ℕ) (is_clean : S → Bool) (IsSound : S → Type 0)
    (programs : List Program) (stores : List S) (fault : StartFault) : Type 0 where
  pub place : ℕ
  pub program : Program
  pub is_program : slice_get programs place ≡ Some program
  pub store : S
  pub is_store : slice_get stores place ≡ Some store
  pub after : S
  pub why : IsWhy content failed is_clean IsSound program fault store after
  pub earlier : (q : ℕ) (other : Program) → q < place → slice_get programs q ≡ Some other → IsLoadable other
  -- where every store is clean, none of theirs had a checkpoint of interval 0
  pub free : ((other : S) → IsTrue (is_clean other)) → (q : ℕ) (other : Program) (before : S) → q < place
      → slice_get programs q ≡ Some other → slice_get stores q ≡ Some before → IsSound before
      → get (content before).checkpoints 0 ≡ None
