-- What playing keeps.
use Rattle.std.specs.Prelude.{◌≡◌, ◌⊎◌, ℕ, ◌<◌, ◌≤◌, List, [], ◌∷◌, ◌++◌, Some, length, slice_get, slice_index}
use Rattle.om_format.specs.declared.message.Message.{Message}
use Rattle.om_format.specs.declared.queue.QueueEntry.{QueueEntry}
use Rattle.om_process.specs.Claims.{HasEntry}
use Rattle.om_process.specs.Core.{CoreState, cluster_size, move_of, status_of}
use Rattle.om_process.specs.declared.status.Status.TheVariants.{Waiting}
use Rattle.om_process.specs.Process.{Program}
use Rattle.om_world.specs.Played.{Step}
use Rattle.om_world.specs.World.{IsKnown, WorldState, entry_of}
use Rattle.om_world.specs.declared.entry.Entry.{Entry}
use Rattle.om_world.specs.declared.event.Event.{Event}
use Rattle.om_world.specs.declared.event.Answer.{Answer}
use Rattle.om_check.specs.Whole.{IsDone, IsStarved, IsUnderWay}
use Rattle.om_check.specs.declared.exploring.End.{End}
use Rattle.om_check.specs.declared.exploring.End.TheVariants.{Whole, Stuck}
use Rattle.om_check.specs.declared.resting.Rest.{Rest}
use Rattle.om_check.specs.declared.resting.Rest.TheVariants.{Done, Starved, GoesOn}
use Rattle.om_check.specs.Explored.{LeadTo}

-- the one world is under way where the other was
abbrev pub StaysUnderWay : WorldState → WorldState → Type 0
StaysUnderWay old new = (programs : List Program) → IsUnderWay programs old → IsUnderWay programs new

-- the event was played
abbrev pub WasPlayed : WorldState → Event → WorldState → Type 0
WasPlayed old event new = IsKnown new → (answer : Answer) × Step old event answer new

-- the run of the one world, by these events, goes on to the other, by those
abbrev pub StaysARun : List Event → WorldState → List Event → WorldState → Type 0
StaysARun before old after new = (programs : List Program) → IsUnderWay programs old
    → IsUnderWay programs new × (LeadTo programs before old → LeadTo programs after new)

-- nothing is received
abbrev pub KeepsLive : WorldState → WorldState → Type 0
KeepsLive old new = (programs : List Program) → IsUnderWay programs old → new.live ≡ old.live

-- the frame of this number was received
abbrev pub IsTaken : WorldState → ℕ → WorldState → Type 0
IsTaken old frame new = (m : Message) × (slice_get old.frames frame ≡ Some m) × (new.live ≡ old.live ++ entry_of m ∷ [])

abbrev pub HasReceived : WorldState → ℕ → WorldState → Type 0
HasReceived old frame new = (programs : List Program) → IsUnderWay programs old → IsTaken old frame new

-- it is from the one process to the other
abbrev pub IsOf : WorldState → ℕ → ℕ → ℕ → Type 0
IsOf w frame from to = (m : Message) × (slice_get w.frames frame ≡ Some m) × (m.from ≡ from) × (m.to ≡ to)

-- something of these two was received
abbrev pub HasDelivered : WorldState → WorldState → ℕ → ℕ → Type 0
HasDelivered old new from to = (programs : List Program) → IsUnderWay programs old → (e : Entry) × (new.live ≡ old.live ++ e ∷ []) × (e.from ≡ from) × (e.to ≡ to)

-- the one process keeps for the other what was not received there
abbrev pub HasMoreFor : CoreState → CoreState → Type 0
HasMoreFor from to =
    (number : ℕ) × (e : QueueEntry) × HasEntry from.now.queues to.own number e × (slice_index to.now.got from.own ≤ number)

-- one of the first n processes keeps for it what it has not received
abbrev pub IsWaitingFor : WorldState → CoreState → ℕ → Type 0
IsWaitingFor w c n = (q : ℕ) × (q < n) × (d : CoreState) × (slice_get w.cores q ≡ Some (Some d)) × (d.own ≡ q) × HasMoreFor d c

-- the process waits, and can receive something
abbrev pub CanReceive : WorldState → ℕ → ℕ → Type 0
CanReceive w n p = (c : CoreState) × (slice_get w.cores p ≡ Some (Some c)) × (c.own ≡ p) × (cluster_size c.now ≡ length w.programs)
    × (status_of (move_of c) ≡ Waiting) × IsWaitingFor w c n

-- so the process stands
abbrev pub StandsAs : WorldState → ℕ → ℕ → Rest → Type 0
StandsAs w p n Done = IsDone w p
StandsAs w p n Starved = IsStarved w p
StandsAs w p n GoesOn = CanReceive w n p

-- a process can receive something
abbrev pub IsGoingOn : WorldState → ℕ → Type 0
IsGoingOn w n = (p : ℕ) × (p < n) × CanReceive w n p

-- the first n processes stand as this end says
abbrev pub StandsIn : WorldState → End → ℕ → Type 0
StandsIn w Whole n = (p : ℕ) → p < n → IsDone w p
StandsIn w Stuck n = (p : ℕ) → p < n → IsDone w p ⊎ IsStarved w p

-- where what each store holds is known, what was received stays
abbrev pub KeepsKnownLive : WorldState → WorldState → Type 0
KeepsKnownLive old new = IsKnown new → new.live ≡ old.live
