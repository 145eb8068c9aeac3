-- Where the process of a store stands.
use Rattle.std.specs.Prelude.{◌≡◌, ℕ, ◌+◌, ◌-◌, ◌*◌, ◌≤◌, ◌⊎◌, List, length, Option, None, Some}
use Rattle.om_format.specs.Checkpoints.{CheckpointRecord}
use Rattle.om_format.specs.Receipts.{ReceiptRecord}
use Rattle.om_process.specs.Core.{CoreState, cluster_size}
use Rattle.om_process.specs.Replays.{process_of_checkpoint}
use Rattle.om_process.specs.Stored.{anyone, BeginsWith, IsReplay, Refuses}
use Rattle.om_process.specs.declared.replay.ReplayFault.{ReplayFault}
use Rattle.om_process.specs.declared.limits.TheConstants.{LAST_INTERVAL}
use Rattle.om_stable.specs.Content.{Content, IsEffective}
use Rattle.om_timeline.specs.Timeline.{TimelineState, at, machine_here}
use Rattle.om_stored_timeline.specs.declared.standing.StoredTimeline.{StoredTimeline}
use Rattle.om_stored_timeline.specs.Following.{IsFollowed, IsToldFrom}

-- the event right behind the receipt of interval x, of a timeline that begins in an earlier one
abbrev pub event_of : ℕ → ℕ → ℕ
event_of begin x = 2 * (x - begin)

-- along the receipts behind the checkpoint with which a replay to x begins the machine alone does not come to that of the replay
pub record IsAstray (held : Content) (x : ℕ) (there : CoreState) : Type 0 where
  pub checkpoint : CheckpointRecord
  pub begins : BeginsWith anyone held x checkpoint
  pub told : TimelineState
  pub is_told : IsToldFrom held.receipts checkpoint.head.pid checkpoint.n checkpoint.head.interval (process_of_checkpoint checkpoint).machine told
  pub not_there : event_of checkpoint.head.interval x ≤ length told.deeds
      → machine_here (at told (event_of checkpoint.head.interval x) 0) ≡ there.now.machine → ⊥

-- The timeline of process own of a store stands right behind its receipt of interval x, with the machine that is replayed to x. Before it
-- stands all from the checkpoint on with which that replay begins, and behind it all that is stored without a gap. Only where the machine
-- alone does not come there is nothing before it
pub record IsTimelineAt (held : Content) (x own : ℕ) (t : TimelineState) : Type 0 where
  pub begin : ℕ
  pub first : CoreState
  pub is_first : IsReplay held begin first
  pub is_own : first.own ≡ own
  pub told : TimelineState
  pub is_told : IsToldFrom held.receipts own (cluster_size first.now) begin first.now.machine told
  pub stands : t ≡ at told (event_of begin x) 0
  pub there : CoreState
  pub is_there : IsReplay held x there
  pub is_here : machine_here t ≡ there.now.machine
  pub from : IsEffective held.checkpoints x begin ⊎ ((begin ≡ x) × IsAstray held x there)

-- the process of the store is this one
abbrev pub IsStoredAt : Content → ℕ → StoredTimeline → Type 0
IsStoredAt held x s = IsTimelineAt held x s.process s.timeline

-- x is the last interval to which the receipts behind the greatest checkpoint lead
pub record IsLastStored (held : Content) (x : ℕ) : Type 0 where
  pub checkpoint : CheckpointRecord
  pub begins : BeginsWith anyone held LAST_INTERVAL checkpoint
  pub receipts : List ReceiptRecord
  pub followed : IsFollowed held.receipts checkpoint.head.pid checkpoint.n checkpoint.head.interval (process_of_checkpoint checkpoint).machine receipts
  pub is : x ≡ checkpoint.head.interval + length receipts

-- a timeline stands behind the receipt of the interval that is asked for, or else of the last
abbrev pub IsStored : Content → Option ℕ → StoredTimeline → Type 0
IsStored held (Some x) s = IsStoredAt held x s
IsStored held None s = (x : ℕ) × IsLastStored held x × IsStoredAt held x s

-- why a store gives no timeline: as a replay to the interval that is asked for is refused, or else to some interval
abbrev pub RefusesStored : Content → Option ℕ → ReplayFault → Type 0
RefusesStored held (Some x) fault = Refuses anyone held x fault
RefusesStored held None fault = (x : ℕ) × Refuses anyone held x fault
