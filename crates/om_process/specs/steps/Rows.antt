-- Rows of a store as they are found, and what is replayed of them.
use Rattle.std.specs.Prelude.{◌≡◌, ℕ, ◌+◌, ◌<◌, ◌≤◌, List, [], ◌∷◌, ◌++◌, length, None, IsSome}
use Rattle.std.specs.FinMap.{get}
use Rattle.om_format.specs.Receipts.{ReceiptRecord, SpellsReceipt}
use Rattle.om_format.specs.Checkpoints.{CheckpointRecord, IsSpelled}
use Rattle.om_format.specs.declared.error.DecodeError.{DecodeError}
use Rattle.om_format.specs.declared.error.DecodeError.TheVariants as decoding
use Rattle.om_stable.specs.Content.{Content, IsFree}
use Rattle.om_process.specs.declared.replay.ReplayFault.{ReplayFault}
use Rattle.om_process.specs.declared.replay.ReplayFault.TheVariants.{NoCheckpoint, Damaged, MissingReceipt, Mismatch, Fault, Memory}
use Rattle.om_process.specs.Process.{Process}
use Rattle.om_process.specs.Replays.{Replayed, process_of_checkpoint}
use Rattle.om_process.specs.Core.{CoreState, cluster_size}
use Rattle.om_process.specs.Stored.{anyone, AreReceiptsAfter, IsDamagedCheckpoint, IsReceiptAt}
use Rattle.om_process.specs.steps.Fitting.{DoesNotFit}

-- rows rise from above an interval to x at most
abbrev pub Ascend : ℕ → ℕ → List (ℕ × List ℕ) → Type 0
Ascend after x [] = after ≤ x
Ascend after x (row ∷ rows) = (after < row.0) × Ascend row.0 x rows

-- rows are of the intervals right after this one, without a gap
abbrev pub AreGapless : ℕ → List (ℕ × List ℕ) → Type 0
AreGapless after [] = Unit {0}
AreGapless after (row ∷ rows) = (row.0 ≡ after + 1) × AreGapless (after + 1) rows

-- y is the least interval above after and at or below x that no row is of
abbrev pub IsFirstGap : ℕ → ℕ → List (ℕ × List ℕ) → ℕ → Type 0
IsFirstGap after x rows y =
    (front : List (ℕ × List ℕ)) × (back : List (ℕ × List ℕ)) × (rows ≡ front ++ back) × AreGapless after front
    × (y ≡ after + length front + 1) × Ascend y x back

-- rows are records of these receipts, each at its interval
abbrev pub SpellRows : List (ℕ × List ℕ) → List ReceiptRecord → Type 0
SpellRows [] [] = Unit {0}
SpellRows (row ∷ rows) (r ∷ rs) = (SpellsReceipt r row.1 × (r.interval ≡ row.0)) × SpellRows rows rs
SpellRows [] (r ∷ rs) = ⊥
SpellRows (row ∷ rows) [] = ⊥

-- why bytes of an interval that are not decoded are refused
abbrev pub damage : ℕ → DecodeError → ReplayFault
damage y decoding.Memory = Memory
damage y error = Damaged y

-- why bytes are no receipt of this interval
abbrev pub RefusesBytes : ℕ → List ℕ → ReplayFault → Type 0
RefusesBytes y bytes (Damaged z) = (z ≡ y) × ((r : ReceiptRecord) → SpellsReceipt r bytes → r.interval ≡ y → ⊥)
RefusesBytes y bytes Memory = Unit {0}
RefusesBytes y bytes _ = ⊥

-- why a row is not delivered to process own of n in this state
abbrev pub RefusesRow : ℕ → ℕ → Process → ℕ × List ℕ → ReplayFault → Type 0
RefusesRow own n s row (Mismatch z) =
    (z ≡ row.0) × ((r : ReceiptRecord) × SpellsReceipt r row.1 × (r.interval ≡ row.0) × DoesNotFit own n s r)
RefusesRow own n s row fault = RefusesBytes row.0 row.1 fault

-- why rows are not: those before one of them are, and that one is not
abbrev pub RefusesRows : ℕ → ℕ → Process → List (ℕ × List ℕ) → ReplayFault → Type 0
RefusesRows own n s rows fault =
    (front : List (ℕ × List ℕ)) × (row : ℕ × List ℕ) × (back : List (ℕ × List ℕ)) × (rows ≡ front ++ row ∷ back)
    × (rs : List ReceiptRecord) × SpellRows front rs × (m : Process) × Replayed own n s rs m × RefusesRow own n m row fault

-- why bytes are no checkpoint of this interval
abbrev pub RefusesCheckpoint : ℕ → List ℕ → ReplayFault → Type 0
RefusesCheckpoint y bytes (Damaged z) = (z ≡ y) × ((c : CheckpointRecord) → IsSpelled c bytes → c.head.interval ≡ y → ⊥)
RefusesCheckpoint y bytes Memory = Unit {0}
RefusesCheckpoint y bytes _ = ⊥

-- why no checkpoint is found with which a replay to x begins
abbrev pub RefusesStart : Content → ℕ → ReplayFault → Type 0
RefusesStart held x NoCheckpoint = IsFree held.checkpoints 0 (x + 1)
RefusesStart held x (Damaged y) = IsDamagedCheckpoint anyone held x y
RefusesStart held x Fault = Unit {0}
RefusesStart held x Memory = Unit {0}
RefusesStart held x _ = ⊥

-- from this checkpoint by these receipts process own of n is in this state, right before receipt y, which stands at or below x
pub record ComesFrom (held : Content) (x : ℕ) (c : CheckpointRecord) (y : ℕ) (s : Process) : Type 0 where
  pub receipts : List ReceiptRecord
  pub stored : AreReceiptsAfter held.receipts c.head.interval receipts
  pub next : y ≡ c.head.interval + length receipts + 1
  pub within : y ≤ x
  pub replayed : Replayed c.head.pid c.n (process_of_checkpoint c) receipts s

-- no receipt up to x is missing
abbrev pub HasReceipts : Content → ℕ → CheckpointRecord → Type 0
HasReceipts held x c = (y : ℕ) → c.head.interval < y → y ≤ x → IsSome (get held.receipts y)

-- why a replay to x that begins with this checkpoint ends there
abbrev pub RefusesFrom : Content → ℕ → CheckpointRecord → ReplayFault → Type 0
RefusesFrom held x c NoCheckpoint = ⊥
RefusesFrom held x c (MissingReceipt y) =
    (c.head.interval < y) × (y ≤ x) × (get held.receipts y ≡ None)
    × ((z : ℕ) → c.head.interval < z → z < y → IsSome (get held.receipts z))
RefusesFrom held x c (Damaged y) =
    HasReceipts held x c × ((s : Process) × ComesFrom held x c y s × ((r : ReceiptRecord) → IsReceiptAt held.receipts y r → ⊥))
RefusesFrom held x c (Mismatch y) =
    HasReceipts held x c
    × ((s : Process) × ComesFrom held x c y s × (r : ReceiptRecord) × IsReceiptAt held.receipts y r × DoesNotFit c.head.pid c.n s r)
RefusesFrom held x c Fault = Unit {0}
RefusesFrom held x c Memory = Unit {0}

-- the core is what is replayed to x from this checkpoint
pub record IsReplayFrom (held : Content) (x : ℕ) (c : CheckpointRecord) (core : CoreState) : Type 0 where
  pub all : HasReceipts held x c
  pub own : core.own ≡ c.head.pid
  pub size : cluster_size core.now ≡ c.n
  pub receipts : List ReceiptRecord
  pub stored : AreReceiptsAfter held.receipts c.head.interval receipts
  pub last : x ≡ c.head.interval + length receipts
  pub replayed : Replayed c.head.pid c.n (process_of_checkpoint c) receipts core.now
