-- What is kept of a world that ended.
use Rattle.std.specs.Prelude.{◌≡◌, ℕ, ◌<◌, Bool, List, Vec, length, map, slice_get, true, false, Some}
use Rattle.std.specs.declared.alloc.Global.{Global}
use Rattle.om_manager.specs.Outputs.{AreNumbered, held_of}
use Rattle.om_manager.specs.State.{ManagerState, released_by}
use Rattle.om_manager.specs.declared.output_log.Output.{Output}
use Rattle.om_member.specs.declared.member.Member.{Member}
use Rattle.om_member.specs.declared.member.MemberState.TheVariants as stands
use Rattle.om_world.specs.Failures.{HasNews}
use Rattle.om_world.specs.Stopped.{AreCurrent}
use Rattle.om_world.specs.World.{WorldState}
use Rattle.om_world.specs.steps.Sound.{IsWorld}

-- a member that is down, with the round that it knew
abbrev pub halted : {S : Type 0} → Member S → Member S
halted m = record m { standing = stands.Down true }

-- the outputs of each process are those that the manager released, each with its place as its number
abbrev pub AreReleasedBy : ManagerState → List (Vec Output Global) → Type 0
AreReleasedBy m released =
    (p : ℕ) (outputs : Vec Output Global) → slice_get released p ≡ Some outputs → (map held_of outputs.items ≡ released_by m p) × AreNumbered outputs.items

-- what is left of a world, over its stores
pub record IsStopped {S : Type 0} (IsSound : S → Type 0) (stores : List S) (outputs : List (Vec Output Global)) (settled : Bool) (w : WorldState) : Type 0 where
  pub world : IsWorld IsSound stores w
  pub many : length outputs ≡ length w.programs
  pub released : AreReleasedBy w.manager outputs
  pub current : settled ≡ true → AreCurrent w
  pub news : settled ≡ false → (p : ℕ) × (p < length w.programs) × HasNews w p
