-- Whose place it is.
use Rattle.std.specs.Prelude.{◌≡◌, ℕ, Bool, List, Some, false, slice_get}
use Rattle.om_process.specs.Process.{Program}
use Rattle.om_node.specs.Nodes.{AreAlwaysClean, Member, NodeState}
use Rattle.om_worker_parts.specs.declared.worker_state.WorkerState.{WorkerState}
use Rattle.om_worker_parts.specs.declared.worker_state.WorkerState.TheVariants.{Up, MustJoin, Joined, Failed, Down, AllQuiet}
use Rattle.om_worker_parts.specs.declared.worker_state.TurnOutcome.{TurnOutcome}
use Rattle.om_worker_parts.specs.declared.worker_state.TurnOutcome.TheVariants as steps

-- The member is the one of this number among n processes that run these programs, and over clean stores its store is clean.
pub record IsProcessOf {S : Type 0} (is_clean : S → Bool) (over_clean : Type 0) (programs : List Program) (n own : ℕ) (member : Member) : Type 0 where
  pub own_is : member.own ≡ own
  pub program : slice_get programs member.own ≡ Some member.program
  pub size : member.n ≡ n
  pub clean : over_clean → AreAlwaysClean is_clean

-- the member whose place it is
abbrev pub member_of : {J S : Type 0} → WorkerState J S → Member
member_of (Up node) = node.member
member_of (MustJoin node) = node.member
member_of (Joined node) = node.member
member_of (Failed down_node) = down_node
member_of (Down down_node) = down_node
member_of (AllQuiet node) = node.member

-- no flight of a process is under way that does not run on
abbrev pub IsLanded : {J S : Type 0} → WorkerState J S → Type 0
IsLanded (Up node) = Unit {0}
IsLanded (MustJoin node) = node.away ≡ false
IsLanded (Joined node) = node.away ≡ false
IsLanded (Failed down_node) = Unit {0}
IsLanded (Down down_node) = Unit {0}
IsLanded (AllQuiet node) = node.away ≡ false

-- where a process stands after a step
abbrev pub place_after : {J S : Type 0} → TurnOutcome → NodeState → WorkerState J S
place_after steps.Up node = Up node
place_after steps.MustJoin node = MustJoin node
place_after steps.Failed node = Failed node.member
place_after steps.AllQuiet node = AllQuiet node

-- no flight of a process is under way that steps elsewhere than up
abbrev pub IsLandedAt : TurnOutcome → NodeState → Type 0
IsLandedAt steps.Up node = Unit {0}
IsLandedAt steps.MustJoin node = node.away ≡ false
IsLandedAt steps.Failed node = node.away ≡ false
IsLandedAt steps.AllQuiet node = node.away ≡ false
