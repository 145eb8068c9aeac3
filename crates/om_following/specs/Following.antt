-- What a follower was told, and what it is still to be told.
use Rattle.std.specs.Prelude.{◌≡◌, ◌≢◌, ℕ, ◌≤◌, List, [], ◌++◌, Vec, Option, None, Some, length, map, slice_get, slice_index}
use Rattle.std.specs.declared.alloc.Global.{Global}
use Rattle.om_manager.specs.declared.output_log.Output.{Output}
use Rattle.om_process.specs.Process.{Program}
use Rattle.om_report.specs.Telling.{IsMadeWithin, Told, of_process, told_of}
use Rattle.om_following.specs.declared.follower.FollowFault.{FollowFault}
use Rattle.om_following.specs.declared.follower.FollowFault.TheVariants.{Unwanted}
use Rattle.om_following.specs.declared.followed_outputs.FollowedOutputs.{FollowedOutputs}

-- no output of the lane was copied
pub record IsEmpty (lane : FollowedOutputs) : Type 0 where
  pub copied : lane.copied ≡ 0
  pub fresh : lane.fresh.items ≡ []

-- no output of any lane was copied
abbrev pub AreEmpty : List FollowedOutputs → Type 0
AreEmpty lanes = (p : ℕ) (lane : FollowedOutputs) → slice_get lanes p ≡ Some lane → IsEmpty lane

-- of no lane an output is still to be told
abbrev pub AreTold : List FollowedOutputs → Type 0
AreTold lanes = (p : ℕ) (lane : FollowedOutputs) → slice_get lanes p ≡ Some lane → lane.fresh.items ≡ []

-- of these outputs all were copied, by process
abbrev pub AreAllCopied : List (Vec Output Global) → List FollowedOutputs → Type 0
AreAllCopied brought lanes = (p : ℕ) (outputs : Vec Output Global) (lane : FollowedOutputs) → slice_get brought p ≡ Some outputs → slice_get lanes p ≡ Some lane
    → length outputs.items ≤ lane.copied

-- how many outputs of a lane were copied, if there is one
abbrev pub copied_of : Option FollowedOutputs → ℕ
copied_of None = 0
copied_of (Some lane) = lane.copied

-- what is still to be told of a lane, if there is one
abbrev pub fresh_of : ℕ → Option FollowedOutputs → List Told
fresh_of p None = []
fresh_of p (Some lane) = map (told_of p) lane.fresh.items

-- what was told of a process, and behind it what is still to be told
abbrev pub all_of : ℕ → List Told → List FollowedOutputs → List Told
all_of p told lanes = of_process p told ++ fresh_of p (slice_get lanes p)

-- Since it was `start`, a follower was told of outputs. With those that are still to be told they are, by process, all that were copied,
-- numbered from 0 without a gap; over clean stores each is the output of its number that its program makes, within its place of the vector.
pub record IsTold {F : Type 0} (Tells : F → F → List Told → Type 0) (over_clean : Type 0) (programs : List Program) (n : ℕ) (vec : List ℕ)
    (start : F) (lanes : List FollowedOutputs) (now : F) : Type 0 where
  pub told : List Told
  pub tells : Tells start now told
  pub many : (p : ℕ) → length (all_of p told lanes) ≡ copied_of (slice_get lanes p)
  pub in_order : (p i : ℕ) (t : Told) → slice_get (all_of p told lanes) i ≡ Some t → t.number ≡ i
  pub made : over_clean → (p i : ℕ) (t : Told) → slice_get (all_of p told lanes) i ≡ Some t → IsMadeWithin programs n p (slice_index vec p) t

-- unless a follower wanted no more, it was told since `start` of outputs as `IsTold` says
abbrev pub IsFollowed : {F : Type 0} → (F → F → List Told → Type 0) → Type 0 → List Program → ℕ → List ℕ → F → List FollowedOutputs → Option FollowFault → F
    → Type 0
IsFollowed Tells over_clean programs n vec start lanes fault now = fault ≢ Some Unwanted → IsTold Tells over_clean programs n vec start lanes now

-- what a follower was told since any start is as `IsFollowed` says, if it was so before
abbrev pub StaysFollowed : {F : Type 0} → (F → F → List Told → Type 0) → Type 0 → List Program → ℕ → List ℕ → List FollowedOutputs → Option FollowFault → F
    → List ℕ → List FollowedOutputs → Option FollowFault → F → Type 0
StaysFollowed Tells over_clean programs n vec lanes fault before vec' lanes' fault' after =
    (start : _) → IsFollowed Tells over_clean programs n vec start lanes fault before → IsFollowed Tells over_clean programs n vec' start lanes' fault' after
