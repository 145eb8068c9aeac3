-- What is said of several events: who changes, what is sent, handed in and stored.
use Rattle.std.specs.Prelude.{◌≡◌, ◌⊎◌, ℕ, zero, suc, ◌<◌, ◌≤◌, List, [], ◌∷◌, ◌++◌, length, take, drop, slice_get, slice_set, Bool, true, false, Some}
use Rattle.om_format.specs.declared.message.Message.{Message}
use Rattle.om_format.specs.Queues.{queue_end}
use Rattle.om_stable.specs.Content.{Content}
use Rattle.om_stable.specs.Count.{Rose}
pub use Rattle.om_process.specs.Frames.{message_of}
use Rattle.om_process.specs.Core.{CoreState, cluster_size, with_pending}
use Rattle.om_process.specs.declared.row.PendingRow.{PendingRow}
use Rattle.om_process.specs.Frames.{messages_to, outputs_of}
use Rattle.om_process.specs.Kept.{numbered}
use Rattle.om_member.specs.declared.batch.Batch.{Batch}
use Rattle.om_member.specs.Told.{AreTold}
use Rattle.om_manager.specs.Outputs.{HeldOutput}
use Rattle.om_manager.specs.State.{ManagerState, held_by}
use Rattle.om_world.specs.declared.process_state.ProcessState.{ProcessState}
use Rattle.om_world.specs.World.{Health, SinceState, WorldState}
pub use Rattle.om_member.specs.Members.{HasGained, stored}
pub use Rattle.om_member.specs.Told.{row_for}

-- all stays but how the stores stand
abbrev pub IsSame : WorldState → WorldState → Type 0
IsSame old new = new ≡ record old { health = new.health }

-- the count of failures of the store at a place rose
pub record RoseAt (old : List Health) (p : ℕ) (new : List Health) : Type 0 where
  pub before : Health
  pub after : Health
  pub is_before : slice_get old p ≡ Some before
  pub is_after : slice_get new p ≡ Some after
  pub rose : Rose before.failed after.failed

-- no store counts fewer failures than before
pub record NoneFell (old new : List Health) : Type 0 where
  pub many : length new ≡ length old
  pub counts : (p : ℕ) (before after : Health) → slice_get old p ≡ Some before → slice_get new p ≡ Some after → before.failed ≤ after.failed

-- the store of process p failed, and counts it
abbrev pub HasFailed : WorldState → ℕ → WorldState → Type 0
HasFailed old p new = RoseAt old.health p new.health

abbrev pub IsUp : WorldState → ℕ → Type 0
IsUp w p = slice_get w.places p ≡ Some ProcessState.Up

-- process p is up, with the one core before and the other after; no other core changes, what was received stays, and who is up
pub record Changes (old : WorldState) (p : ℕ) (c d : CoreState) (new : WorldState) : Type 0 where
  pub up : IsUp old p
  pub before : slice_get old.cores p ≡ Some (Some c)
  pub cores : new.cores ≡ slice_set old.cores p (Some d)
  pub stays : new ≡ record new { programs = old.programs; live = old.live; places = old.places; rounds = old.rounds; origins = old.origins }

-- ---- messages and outputs
-- of the messages to each of the first n processes, those behind the first few, by receiver and then by number
abbrev pub messages_behind : CoreState → (ℕ → ℕ) → ℕ → List Message
messages_behind c few zero = []
messages_behind c few (suc n) = messages_behind c few n ++ drop (few n) (numbered (message_of c n) (messages_to c n).first (messages_to c n).entries)

-- what a core that sent more keeps of it
abbrev pub new_messages : CoreState → CoreState → List Message
new_messages c d = messages_behind d (λ to. length (messages_to c to).entries) (cluster_size d.now)

abbrev pub all_messages : CoreState → List Message
all_messages c = messages_behind c (λ to. 0) (cluster_size c.now)

-- how many outputs the process made
abbrev pub made_by : CoreState → ℕ
made_by c = queue_end (outputs_of c)

-- the manager holds more outputs of one process
abbrev pub HoldsMore : ManagerState → ℕ → ManagerState → Type 0
HoldsMore old p new = (more : List HeldOutput) × (new ≡ record old { outputs = slice_set old.outputs p (held_by old p ++ more) })

-- ---- records that are stored and noted
-- whether a row is pending
abbrev pub has_rows : List PendingRow → Bool
has_rows [] = false
has_rows (row ∷ rows) = true

-- a batch was stored: a process has stored, where a row of it is pending then, since no record is stored without one
abbrev pub has_stored : Bool → SinceState → SinceState
has_stored true since = record since { stored = true }
has_stored false since = since

-- the store of process p gained it
abbrev pub HasStored : Batch → WorldState → ℕ → CoreState → WorldState → Type 0
HasStored kind old p c new =
    (before : Content) × (after : Content) × (slice_get old.contents p ≡ Some before) × HasGained kind c before after
    × (new.contents ≡ slice_set old.contents p after) × (new.since ≡ has_stored (has_rows (stored kind c).pending) old.since)

-- the first so many of the pending rows of the core, as it was once it had stored, are noted and no longer pending
pub record HasNoted (old : WorldState) (p : ℕ) (c d : CoreState) (count : ℕ) (new : WorldState) : Type 0 where
  pub changes : Changes old p c (with_pending d (drop count d.pending)) new
  pub within : count ≤ length d.pending
  pub manager : AreTold old.manager old.manager.round p (take count d.pending) new.manager
  pub frames : new.frames ≡ old.frames

-- memory was refused: nothing is stored, or all of it, and some of the pending rows are noted
abbrev pub StoreStopped : Batch → WorldState → ℕ → WorldState → Type 0
StoreStopped kind old p new = IsSame old new ⊎ ((c : CoreState) × (count : ℕ)
    × HasStored kind old p c new × HasNoted old p c (stored kind c) count new × (count < length (stored kind c).pending))
