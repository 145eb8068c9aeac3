-- What a run without failures comes to. No failure, log, vector or incarnation stands in this.
use Rattle.std.specs.Prelude.{◌≡◌, ℕ, ◌<◌, List, Some, length, map, slice_get}
use Rattle.om_format.specs.declared.queue.QueueEntry.{QueueEntry}
use Rattle.om_process.specs.Claims.{HasEntry}
use Rattle.om_process.specs.Dependencies.{count_from}
use Rattle.om_process.specs.Kept.{queue_at}
use Rattle.om_process.specs.Process.{Process, Program, Received, made}
use Rattle.om_process.specs.Turns.{Reaches, next_move}
use Rattle.om_process.specs.Core.{IsEnd, status_of}
use Rattle.om_process.specs.declared.status.Status.{Status}
use Rattle.om_process.specs.declared.status.Status.TheVariants.{Ready, Waiting}
use Rattle.om_manager.specs.Outputs.{HeldOutput}
use Rattle.om_world.specs.declared.entry.Entry.{Entry}
use Rattle.om_world.specs.Live.{Legal, program_at, received}
use Rattle.om_world.specs.World.{output_entry}

-- nothing comes next by itself: the process waits for a message, or has come to an end
abbrev pub IsAtRest : Status → Type 0
IsAtRest Ready = ⊥
IsAtRest status = Unit {0}

-- by these receipts process `own` of n comes to rest with this status, and has put out exactly this
pub record RestsWith (program : Program) (own n : ℕ) (h : List Received) (outputs : List HeldOutput) (status : Status) : Type 0 where
  pub end : Process
  pub reaches : Reaches program own n h end
  pub status_is : status ≡ status_of (next_move own n end.machine (made end.queues))
  pub at_rest : IsAtRest status
  pub put_out : queue_at end.queues n ≡ record { first = 0; entries = map output_entry outputs }

-- what the processes put out, and how each stands, once nothing comes next by itself in the run without failures in which this was received
pub record IsRestBy (programs : List Program) (live : List Entry) (outputs : List (List HeldOutput)) (statuses : List Status) : Type 0 where
  pub legal : Legal programs live
  pub processes : length outputs ≡ length programs
  pub stands : length statuses ≡ length programs
  pub each : (p : ℕ) (program : Program) (out : List HeldOutput) (status : Status)
      → slice_get programs p ≡ Some program → slice_get outputs p ≡ Some out → slice_get statuses p ≡ Some status
      → RestsWith program p (length programs) (received p live) out status

-- what the processes put out, and how they ended, in the run without failures in which this was received
pub record IsRunBy (programs : List Program) (live : List Entry) (outputs : List (List HeldOutput)) (statuses : List Status) : Type 0 where
  pub rest : IsRestBy programs live outputs statuses
  pub ended : (p : ℕ) (status : Status) → slice_get statuses p ≡ Some status → IsEnd status

-- all that was sent to a process was received: whatever another comes to have sent to it has a lower number than the next one from there
abbrev pub HasReceivedAll : List Program → List Entry → ℕ → Type 0
HasReceivedAll programs live p =
    (q number : ℕ) (s : Process) (e : QueueEntry) → q < length programs
    → Reaches (program_at programs q) q (length programs) (received q live) s → HasEntry s.queues p number e
    → number < count_from q (received p live)

-- What the processes put out, and how each stands, in a run without failures in which this was received and nothing is left to
-- happen: each has ended, or waits and has received all that was sent to it.
pub record IsStuckBy (programs : List Program) (live : List Entry) (outputs : List (List HeldOutput)) (statuses : List Status) : Type 0 where
  pub rest : IsRestBy programs live outputs statuses
  pub waits : (p : ℕ) → slice_get statuses p ≡ Some Waiting → HasReceivedAll programs live p
