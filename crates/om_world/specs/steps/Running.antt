-- What the calls of a run do.
use Rattle.std.specs.Prelude.{◌≡◌, ℕ, ◌<◌, ◌≤◌, List, ◌++◌, length, slice_get, slice_index, Option, Some, Result, OnOk, IfErr}
use Rattle.om_format.specs.declared.message.Message.{Message}
use Rattle.om_process.specs.Core.{CoreState, cluster_size}
use Rattle.om_process.specs.Frames.{message_of, messages_to}
use Rattle.om_process.specs.Kept.{numbered}
use Rattle.om_manager.specs.Sound.{KeepsReleased}
use Rattle.om_manager.specs.State.{held_by}
use Rattle.om_manager.specs.declared.answers.OutputError.{OutputError}
use Rattle.om_manager.specs.declared.answers.OutputError.TheVariants as refused
use Rattle.om_world.specs.declared.event.Refusal.{Refusal}
use Rattle.om_world.specs.declared.event.Refusal.TheVariants as why
use Rattle.om_world.specs.Changes.{HoldsMore, made_by, messages_behind}
use Rattle.om_world.specs.World.{WorldState, IsKnown}
pub use Rattle.om_member.specs.Handed.{AreHanded, AreHandedUpTo, IsHanded, held_as, outputs_from}
pub use Rattle.om_member.specs.steps.Taking.{offer_of}

-- the messages to a process that are kept, on their way
abbrev pub messages_in : CoreState → ℕ → List Message
messages_in c to = numbered (message_of c to) (messages_to c to).first (messages_to c to).entries

-- ---- messages
-- these are how many messages to each process a core keeps
abbrev pub AreKept : CoreState → List ℕ → Type 0
AreKept c counts = (to : ℕ) → to < cluster_size c.now → slice_index counts to ≡ length (messages_to c to).entries

-- the core at this place keeps so many messages to each process, or more
abbrev pub KeepsMore : List (Option CoreState) → ℕ → List ℕ → Type 0
KeepsMore cores p few =
    (c : CoreState) × (slice_get cores p ≡ Some (Some c))
    × ((to : ℕ) → to < cluster_size c.now → slice_index few to ≤ length (messages_to c to).entries)

-- its messages behind the first few to each process
abbrev pub messages_past : CoreState → List ℕ → List Message
messages_past c few = messages_behind c (λ to. slice_index few to) (cluster_size c.now)

-- they became frames
abbrev pub HasSent : WorldState → ℕ → List ℕ → ℕ → WorldState → Type 0
HasSent old p few sent new =
    (c : CoreState) × (slice_get old.cores p ≡ Some (Some c)) × (sent ≡ length (messages_past c few))
    × (new ≡ record old { frames = old.frames ++ messages_past c few })

-- ---- outputs
-- the manager is handed what a process made and it had not, up to the first output that it refuses for want of memory
pub record HasHandedIn (old : WorldState) (p : ℕ) (end : Result (Unit {0}) OutputError) (new : WorldState) : Type 0 where
  pub core : CoreState
  pub there : slice_get old.cores p ≡ Some (Some core)
  pub others : new ≡ record old { manager = new.manager }
  pub more : HoldsMore old.manager p new.manager
  pub released : KeepsReleased old.manager new.manager
  pub all : IsKnown old → OnOk end (made_by core ≤ length (held_by new.manager p))
  pub memory : IsKnown old → IfErr end (λ fault. fault ≡ refused.Memory)

-- what an event is answered whose output the manager refused
abbrev pub refusal_of_output : OutputError → Refusal
refusal_of_output refused.Memory = why.Memory
refusal_of_output fault = why.Damaged
