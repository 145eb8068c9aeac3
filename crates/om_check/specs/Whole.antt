-- A world in which a run without failures has come to its end, or in which nothing is left to happen.
use Rattle.std.specs.Prelude.{◌≡◌, ◌⊎◌, ℕ, ◌<◌, List, Some, length, replicate, slice_get, slice_index}
use Rattle.om_format.specs.declared.queue.QueueEntry.{QueueEntry}
use Rattle.om_process.specs.Claims.{HasEntry}
use Rattle.om_process.specs.Core.{CoreState, IsEnd, cluster_size, move_of, status_of}
use Rattle.om_process.specs.Process.{Program}
use Rattle.om_process.specs.declared.status.Status.{Status}
use Rattle.om_process.specs.declared.status.Status.TheVariants.{Waiting}
use Rattle.om_manager.specs.Outputs.{HeldOutput}
use Rattle.om_manager.specs.State.{process_count, released_by}
use Rattle.om_world.specs.Changes.{made_by}
use Rattle.om_world.specs.declared.process_state.ProcessState.{ProcessState}
use Rattle.om_world.specs.Holds.{Holds}
use Rattle.om_world.specs.World.{WorldState, IsKnown}

-- a world of these programs, at a point of a run without failures, with all processes up
pub record IsUnderWay (programs : List Program) (w : WorldState) : Type 0 where
  pub these : w.programs ≡ programs
  pub places : w.places ≡ replicate (length programs) ProcessState.Up
  pub known : IsKnown w
  pub holds : Holds w
  pub managed : process_count w.manager ≡ length programs

-- the process has come to an end, and all that it put out is released
abbrev pub IsDone : WorldState → ℕ → Type 0
IsDone w p = (c : CoreState) × (slice_get w.cores p ≡ Some (Some c)) × (c.own ≡ p) × (cluster_size c.now ≡ length w.programs)
    × IsEnd (status_of (move_of c)) × (made_by c ≡ length (released_by w.manager p))

-- each process of the world has come to an end, and all that it put out is released
pub record IsWhole (programs : List Program) (w : WorldState) : Type 0 where
  pub way : IsUnderWay programs w
  pub done : (p : ℕ) → p < length programs → IsDone w p

-- what the one process keeps for the other was received there
abbrev pub KeepsReceived : CoreState → CoreState → Type 0
KeepsReceived from to = (number : ℕ) (e : QueueEntry) → HasEntry from.now.queues to.own number e → number < slice_index to.now.got from.own

-- what each of the first n processes keeps for this one was received there
abbrev pub HasAllFrom : WorldState → CoreState → ℕ → Type 0
HasAllFrom w c n = (q : ℕ) → q < n → (d : CoreState) × (slice_get w.cores q ≡ Some (Some d)) × (d.own ≡ q) × KeepsReceived d c

-- the process waits, has received all that the others keep for it, and all that it put out is released
abbrev pub IsStarved : WorldState → ℕ → Type 0
IsStarved w p = (c : CoreState) × (slice_get w.cores p ≡ Some (Some c)) × (c.own ≡ p) × (cluster_size c.now ≡ length w.programs)
    × (status_of (move_of c) ≡ Waiting) × (made_by c ≡ length (released_by w.manager p))
    × HasAllFrom w c (length w.programs)

-- of a world of these programs nothing is left to happen
pub record IsStuck (programs : List Program) (w : WorldState) : Type 0 where
  pub way : IsUnderWay programs w
  pub each : (p : ℕ) → p < length programs → IsDone w p ⊎ IsStarved w p

-- the outputs of each process are those that are released
abbrev pub AreReleasedIn : WorldState → List (List HeldOutput) → Type 0
AreReleasedIn w outputs = (p : ℕ) (out : List HeldOutput) → slice_get outputs p ≡ Some out → out ≡ released_by w.manager p

-- the statuses are those of all processes of the world, by number
abbrev pub AreStatusesOf : WorldState → List Status → Type 0
AreStatusesOf w statuses = (p : ℕ) (status : Status) → slice_get statuses p ≡ Some status
    → (c : CoreState) × (slice_get w.cores p ≡ Some (Some c)) × (status ≡ status_of (move_of c))
