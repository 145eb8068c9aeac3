-- What holds of a process and its store.
use Rattle.std.specs.Prelude.{◌≡◌, ℕ, List, Bool, IsTrue, Some, Result, OnErr}
use Rattle.std.specs.FinMap.{get}
use Rattle.om_format.specs.Checkpoints.{CheckpointRecord, IsSpelled}
use Rattle.om_stable.specs.Content.{Content}
use Rattle.om_process.specs.Claims.{CheckpointOf}
use Rattle.om_process.specs.Core.{CoreState, cluster_size}
use Rattle.om_process.specs.Process.{Process, Program, Received}
use Rattle.om_process.specs.Replays.{process_of_checkpoint}
use Rattle.om_manager.specs.Outputs.{HeldOutput}
use Rattle.om_board.specs.Made.{IsOutputOf}

-- one of n processes, with its program
pub record Member : Type 0 where
  pub program : Program
  pub own : ℕ
  pub n : ℕ

-- one of n processes, with its program, as it runs
pub record MemberState : Type 0 where
  pub member : Member
  pub core : CoreState

-- a process that is up: as it runs, whether its store is away with a flight, and whether flights take to it what is to be stored
pub record NodeState : Type 0 where
  pub member : Member
  pub core : CoreState
  pub away : Bool
  pub slow : Bool

-- the process stands where some receipts lead, with fewer entries kept
abbrev pub IsOnWay : Member → Process → Type 0
IsOnWay m s = (h : List Received) × CheckpointOf m.program m.own m.n s h

-- the process of each checkpoint that a store holds stands where some receipts lead, with fewer entries kept
abbrev pub AreOnWay : Member → Content → Type 0
AreOnWay m held = (x : ℕ) (bytes : List ℕ) → get held.checkpoints x ≡ Some bytes
    → (c : CheckpointRecord) → IsSpelled c bytes → IsOnWay m (process_of_checkpoint c)

-- what is known of a member's store where it is clean
pub record IsKept {S : Type 0} (content : S → Content) (is_clean : S → Bool) (IsSound : S → Type 0) (m : Member) (store : S)
    : Type 0 where
  pub sound : IsTrue (is_clean store) → IsSound store
  pub stored : IsTrue (is_clean store) → AreOnWay m (content store)

-- what holds of a member that runs over a store
pub record IsNode {S : Type 0} (content : S → Content) (is_clean : S → Bool) (IsSound : S → Type 0) (d : MemberState) (store : S)
    : Type 0 where
  pub own : d.core.own ≡ d.member.own
  pub size : cluster_size d.core.now ≡ d.member.n
  pub kept : IsKept content is_clean IsSound d.member store
  pub stands : IsTrue (is_clean store) → IsOnWay d.member d.core.now

-- each store of a kind is clean
abbrev pub AreAlwaysClean : {S : Type 0} → (S → Bool) → Type 0
AreAlwaysClean is_clean = (store : _) → IsTrue (is_clean store)

-- what is an output of the member's program, if all stores are clean, may be handed in
abbrev pub TakesFrom : {S : Type 0} → (ℕ → ℕ → HeldOutput → Type 0) → (S → Bool) → Member → Type 0
TakesFrom Takes is_clean m = (seq : ℕ) (output : HeldOutput)
    → (AreAlwaysClean is_clean → IsOutputOf m.program m.own m.n seq output) → Takes m.own seq output

-- a process that runs is still the same, with its program
abbrev pub KeepsMember : NodeState → NodeState → Type 0
KeepsMember old new = new.member ≡ old.member

-- where a call is refused, the process stands as it did
abbrev pub LeavesCore : {A E : Type 0} → NodeState → Result A E → NodeState → Type 0
LeavesCore old result new = OnErr result (new.core ≡ old.core)

-- what runs over clean stores has stores of such a kind
abbrev pub HasCleanStores : {S : Type 0} → Type 0 → (S → Bool) → Type 0
HasCleanStores over_clean is_clean = over_clean → AreAlwaysClean is_clean
