-- What is seen of a world.
use Rattle.std.specs.Prelude.{◌≡◌, ℕ, List, All, slice_index, Bool, true, Option}
use Rattle.std.specs.List.{list_all}
use Rattle.om_format.specs.declared.message.Message.{Message}
use Rattle.om_format.specs.declared.queue.QueueEntry.{QueueEntry}
use Rattle.om_stable.specs.Content.{Content, nothing}
pub use Rattle.om_process.specs.Images.{program_of}
use Rattle.om_process.specs.Process.{Program}
use Rattle.om_process.specs.Core.{CoreState}
use Rattle.om_manager.specs.Outputs.{HeldOutput}
use Rattle.om_manager.specs.State.{ManagerState}
use Rattle.om_world.specs.declared.entry.Entry.{Entry}
use Rattle.om_world.specs.declared.process_state.ProcessState.{ProcessState}

-- how a store stands: whether what it holds is known, and how often it has failed
pub record Health : Type 0 where
  pub clean : Bool
  pub failed : ℕ

-- what is kept of the last finished round, or of the start: what had been received, before the round cut it; and whether a process
-- has stored a record since
pub record SinceState : Type 0 where
  pub before : List Entry
  pub stored : Bool

pub record WorldState : Type 0 where
  pub programs : List Program  -- by process
  pub live : List Entry  -- what was received and not cut, in order
  pub frames : List Message  -- in the order in which they were made
  pub cores : List (Option CoreState)  -- by process, none where it is down
  pub places : List ProcessState  -- by process
  pub rounds : List ℕ  -- by process, how many rounds were finished when it was last up
  pub manager : ManagerState
  pub contents : List Content  -- by process, what its store holds
  pub health : List Health  -- by process, how its store stands
  pub origins : List Content  -- by process, what its store held before the start
  pub since : SinceState  -- the last finished round

-- what each store holds is known
abbrev pub all_clean : List Health → Bool
all_clean = list_all (λ (store : Health). store.clean)

-- a store holds nothing
abbrev pub IsEmpty : Content → Type 0
IsEmpty held = held ≡ nothing

-- the stores held nothing before the start, and what each holds now is known
abbrev pub IsKnown : WorldState → Type 0
IsKnown w = All IsEmpty w.origins × (all_clean w.health ≡ true)

-- the entry of live that a message becomes
abbrev pub entry_of : Message → Entry
entry_of m = record { to = m.to; from = m.from; ssn = m.ssn; interval = m.tag.interval; body = m.body }

-- the place of a process in the recovery state
abbrev pub recovered : ManagerState → ℕ → ℕ
recovered m p = slice_index m.recovery p

-- an output that was handed in, as the entry of a queue
abbrev pub output_entry : HeldOutput → QueueEntry
output_entry o = record { interval = o.interval; body = o.bytes }
