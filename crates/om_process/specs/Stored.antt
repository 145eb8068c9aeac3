-- Replays from a store: which process stands where, and why there is none.
use Rattle.std.specs.Prelude.{◌≡◌, ℕ, ◌+◌, ◌-◌, ◌<◌, ◌≤◌, ◌⊎◌, List, [], ◌∷◌, length, Option, Some, None, IsSome}
use Rattle.std.specs.FinMap.{get}
use Rattle.om_format.specs.Receipts.{ReceiptRecord, SpellsReceipt}
use Rattle.om_format.specs.Checkpoints.{CheckpointRecord, IsSpelled}
use Rattle.om_stable.specs.Content.{Content, Records, IsEffective, IsFree}
use Rattle.om_process.specs.declared.replay.ReplayFault.{ReplayFault}
use Rattle.om_process.specs.declared.replay.ReplayFault.TheVariants.{NoCheckpoint, Damaged, MissingReceipt, Mismatch, Fault, Memory}
use Rattle.om_process.specs.Process.{Process}
use Rattle.om_process.specs.Turns.{Turns}
use Rattle.om_process.specs.Replays.{FitsReceipt, Replayed, process_of_checkpoint}
use Rattle.om_process.specs.Core.{CoreState, cluster_size}

-- the record is stored at an interval, and names it
abbrev pub IsReceiptAt : Records → ℕ → ReceiptRecord → Type 0
IsReceiptAt held y r = (bytes : List ℕ) × (get held y ≡ Some bytes) × SpellsReceipt r bytes × (r.interval ≡ y)

abbrev pub IsCheckpointAt : Records → ℕ → CheckpointRecord → Type 0
IsCheckpointAt held y c = (bytes : List ℕ) × (get held y ≡ Some bytes) × IsSpelled c bytes × (c.head.interval ≡ y)

-- these receipts are stored, each at the interval after that of the one before
abbrev pub AreReceiptsAfter : Records → ℕ → List ReceiptRecord → Type 0
AreReceiptsAfter held y [] = Unit {0}
AreReceiptsAfter held y (r ∷ rs) = IsReceiptAt held (y + 1) r × AreReceiptsAfter held (y + 1) rs

-- whose checkpoints are meant: those of any process of any cluster, or of one process, by its number and the size of its cluster
abbrev pub anyone : Option (ℕ × ℕ)
anyone = None

abbrev pub the_process : ℕ → ℕ → Option (ℕ × ℕ)
the_process own n = Some (own, n)

-- the checkpoint is of a process that is meant
abbrev pub IsCheckpointOf : Option (ℕ × ℕ) → CheckpointRecord → Type 0
IsCheckpointOf None c = Unit {0}
IsCheckpointOf (Some who) c = (c.head.pid ≡ who.0) × (c.n ≡ who.1)

-- a replay to x begins with this checkpoint: it is the effective one of x, and of a process that is meant
pub record BeginsWith (whose : Option (ℕ × ℕ)) (held : Content) (x : ℕ) (c : CheckpointRecord) : Type 0 where
  pub effective : IsEffective held.checkpoints x c.head.interval
  pub stored : IsCheckpointAt held.checkpoints c.head.interval c
  pub meant : IsCheckpointOf whose c

-- on a replay to x, for which no receipt is missing, process own of n is in this state right after receipt y, or where y is
-- the checkpoint's interval, as the checkpoint says
pub record StandsAfter (whose : Option (ℕ × ℕ)) (held : Content) (x y own n : ℕ) (t : Process) : Type 0 where
  pub checkpoint : CheckpointRecord
  pub begins : BeginsWith whose held x checkpoint
  pub all_there : (z : ℕ) → checkpoint.head.interval < z → z ≤ x → IsSome (get held.receipts z)
  pub pid : checkpoint.head.pid ≡ own
  pub size : checkpoint.n ≡ n
  pub receipts : List ReceiptRecord
  pub stored : AreReceiptsAfter held.receipts checkpoint.head.interval receipts
  pub last : y ≡ checkpoint.head.interval + length receipts
  pub replayed : Replayed own n (process_of_checkpoint checkpoint) receipts t

-- the content can be replayed to x
abbrev pub CanReplay : Option (ℕ × ℕ) → Content → ℕ → Type 0
CanReplay whose held x = (own : ℕ) × (n : ℕ) × (t : Process) × StandsAfter whose held x x own n t

-- the core is what is replayed to x
abbrev pub IsReplay : Content → ℕ → CoreState → Type 0
IsReplay held x core = StandsAfter anyone held x x core.own (cluster_size core.now) core.now

-- the effective checkpoint of x is that of y, and it does not decode, names another interval, or is of a process that is not
-- meant
pub record IsDamagedCheckpoint (whose : Option (ℕ × ℕ)) (held : Content) (x y : ℕ) : Type 0 where
  pub effective : IsEffective held.checkpoints x y
  pub damaged : (c : CheckpointRecord) → IsCheckpointAt held.checkpoints y c → IsCheckpointOf whose c → ⊥

-- the receipt of y is not there, and each before it is
pub record IsLeastMissing (whose : Option (ℕ × ℕ)) (held : Content) (x y : ℕ) : Type 0 where
  pub checkpoint : CheckpointRecord
  pub begins : BeginsWith whose held x checkpoint
  pub above : checkpoint.head.interval < y
  pub within : y ≤ x
  pub none : get held.receipts y ≡ None
  pub before : (z : ℕ) → checkpoint.head.interval < z → z < y → IsSome (get held.receipts z)

-- a replay to x comes to receipt y: process own of n is in this state after the one before
abbrev pub ContentReplaysTo : Option (ℕ × ℕ) → Content → ℕ → ℕ → ℕ → ℕ → Process → Type 0
ContentReplaysTo whose held x y own n s = (0 < y) × (y ≤ x) × StandsAfter whose held x (y - 1) own n s

-- why the content is not replayed to x: the first thing that speaks against it. A receipt that is damaged does not decode or
-- names another interval; one that is a mismatch fits nowhere that turns lead. The store's failures and want of memory are
-- not a matter of the content
abbrev pub Refuses : Option (ℕ × ℕ) → Content → ℕ → ReplayFault → Type 0
Refuses whose held x NoCheckpoint = IsFree held.checkpoints 0 (x + 1)
Refuses whose held x (Damaged y) =
    IsDamagedCheckpoint whose held x y
    ⊎ ((own : ℕ) × (n : ℕ) × (s : Process) × ContentReplaysTo whose held x y own n s × ((r : ReceiptRecord) → IsReceiptAt held.receipts y r → ⊥))
Refuses whose held x (MissingReceipt y) = IsLeastMissing whose held x y
Refuses whose held x (Mismatch y) =
    (own : ℕ) × (n : ℕ) × (s : Process) × ContentReplaysTo whose held x y own n s
    × (r : ReceiptRecord) × IsReceiptAt held.receipts y r × ((k : ℕ) (w : Process) → Turns own n k s w → FitsReceipt own n w r → ⊥)
Refuses whose held x _ = Unit {0}

-- the faults that the content does not tell
abbrev pub IsNoMatterOfContent : ReplayFault → Type 0
IsNoMatterOfContent fault = (fault ≡ Fault) ⊎ (fault ≡ Memory)
