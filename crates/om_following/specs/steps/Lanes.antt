-- A follower while the cluster runs.
use Rattle.std.specs.Prelude.{◌≡◌, ◌≢◌, ℕ, ◌+◌, ◌≤◌, List, [], ◌++◌, Vec, Option, None, Some, length, map, slice_get, slice_index, Bool, IsTrue}
use Rattle.std.specs.declared.alloc.Global.{Global}
use mathlib.Core.List.{IsPrefix}
use Rattle.om_interval.specs.Vectors.{IsBelow}
use Rattle.om_board.specs.Fronts.{EndsWith, IsPosted}
use Rattle.om_board.specs.Made.{IsMade}
use Rattle.om_board.specs.declared.front.Front.{Front}
use Rattle.om_manager.specs.Outputs.{HeldOutput, held_of}
use Rattle.om_manager.specs.declared.output_log.Output.{Output}
use Rattle.om_process.specs.Process.{Program}
use Rattle.om_report.specs.Telling.{Told, of_process, told_of}
use Rattle.om_following.specs.declared.followed_outputs.FollowedOutputs.{FollowedOutputs}
use Rattle.om_following.specs.Following.{all_of}

-- nothing of the front is above whatever front comes after those that were seen
abbrev pub IsBehind : List Front → Front → Type 0
IsBehind seen front = (posted : List Front) (last : Front) → IsPrefix seen posted → IsPosted posted → EndsWith posted last → IsBelow front.vec last.vec

-- of what is released of a process, the next outputs were copied
pub record IsMore (released : List HeldOutput) (old new : FollowedOutputs) : Type 0 where
  pub more : List Output
  pub fresh : new.fresh.items ≡ old.fresh.items ++ more
  pub copied : new.copied ≡ old.copied + length more
  pub each : (i : ℕ) (o : Output) → slice_get more i ≡ Some o → (o.seq ≡ old.copied + i) × (slice_get released (old.copied + i) ≡ Some (held_of o))

-- so it is of each lane
pub record AreMore (released : ℕ → List HeldOutput) (old new : List FollowedOutputs) : Type 0 where
  pub many : length new ≡ length old
  pub each : (p : ℕ) (before after : FollowedOutputs) → slice_get old p ≡ Some before → slice_get new p ≡ Some after → IsMore (released p) before after

-- the outputs of a process, if any are given
abbrev pub held_at : Option (Vec Output Global) → List HeldOutput
held_at None = []
held_at (Some outputs) = map held_of outputs.items

-- so of each process
abbrev pub held_in : List (Vec Output Global) → ℕ → List HeldOutput
held_in brought p = held_at (slice_get brought p)

-- the next outputs of a process were copied; over clean stores each is the one of its number that its program makes, within the limit
pub record IsMoreOf (programs : List Program) (n : ℕ) (over_clean : Type 0) (p limit : ℕ) (old new : FollowedOutputs) : Type 0 where
  pub more : List Output
  pub fresh : new.fresh.items ≡ old.fresh.items ++ more
  pub copied : new.copied ≡ old.copied + length more
  pub numbered : (i : ℕ) (o : Output) → slice_get more i ≡ Some o → o.seq ≡ old.copied + i
  pub made : over_clean → (i : ℕ) (o : Output) → slice_get more i ≡ Some o → (o.interval ≤ limit) × IsMade programs n p o.seq (held_of o)

-- so it is of each lane, within its place of the vector
pub record HaveMore (programs : List Program) (n : ℕ) (over_clean : Type 0) (vec : List ℕ) (old new : List FollowedOutputs) : Type 0 where
  pub many : length new ≡ length old
  pub each : (p : ℕ) (before after : FollowedOutputs) → slice_get old p ≡ Some before → slice_get new p ≡ Some after
      → IsMoreOf programs n over_clean p (slice_index vec p) before after

-- it was told of the first of what was still to be told of this lane, and of no other
pub record IsToldOf {F : Type 0} (Tells : F → F → List Told → Type 0) (p : ℕ) (start : F) (before : List Told) (old new : FollowedOutputs) (now : F) : Type 0 where
  pub told : List Told
  pub tells : Tells start now told
  pub own : of_process p told ++ map (told_of p) new.fresh.items ≡ of_process p before ++ map (told_of p) old.fresh.items
  pub others : (q : ℕ) → q ≢ p → of_process q told ≡ of_process q before

-- so it was, since any start
abbrev pub HasTold : {F : Type 0} → (F → F → List Told → Type 0) → ℕ → FollowedOutputs → F → FollowedOutputs → F → Type 0
HasTold Tells p old before new after = (start : _) (told : List Told) → Tells start before told → IsToldOf Tells p start told old new after

-- it was told of the first of what was still to be told of each lane
pub record AreToldOf {F : Type 0} (Tells : F → F → List Told → Type 0) (start : F) (before : List Told) (old new : List FollowedOutputs) (now : F) : Type 0 where
  pub told : List Told
  pub tells : Tells start now told
  pub all : (p : ℕ) → all_of p told new ≡ all_of p before old

-- so it was, since any start
abbrev pub HaveTold : {F : Type 0} → (F → F → List Told → Type 0) → List FollowedOutputs → F → List FollowedOutputs → F → Type 0
HaveTold Tells old before new after = (start : _) (told : List Told) → Tells start before told → AreToldOf Tells start told old new after

-- of each lane as much is copied as before
abbrev pub KeepsCopied : List FollowedOutputs → List FollowedOutputs → Type 0
KeepsCopied old new = map (λ lane. lane.copied) new ≡ map (λ lane. lane.copied) old

-- so it was, where nothing stopped it
abbrev pub HaveToldIf : {F : Type 0} → (F → F → List Told → Type 0) → Bool → List FollowedOutputs → F → List FollowedOutputs → F → Type 0
HaveToldIf Tells result old before new after = IsTrue result → HaveTold Tells old before new after
