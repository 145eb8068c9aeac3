-- What a process leaves when its run is over.
use Rattle.std.specs.Prelude.{◌≡◌, ℕ, List, Some, Vec, map, slice_get, slice_index}
use Rattle.std.specs.declared.alloc.Global.{Global}
use mathlib.Core.List.{IsPrefix}
use Rattle.om_board.specs.Fronts.{EndsWith, IsPosted}
use Rattle.om_board.specs.declared.front.Front.{Front}
use Rattle.om_manager.specs.declared.output_log.Output.{Output}
use Rattle.om_process.specs.Process.{Program}
use Rattle.om_report.specs.Released.{AreMade, AreReleased}
use Rattle.om_manager.specs.Outputs.{held_of}
use Rattle.om_manager.specs.State.{ManagerState, released_by}

-- the outputs of a process, and the fronts that were posted when they were copied
pub record HarvestState : Type 0 where
  pub own : ℕ
  pub outputs : Vec Output Global
  pub seen : List Front

-- outputs that are within the process's place, and are so still whatever comes after the fronts that were seen
abbrev pub StayReleased : List Front → ℕ → List Output → Type 0
StayReleased seen p outputs = (posted : List Front) (last : Front) → IsPrefix seen posted → IsPosted posted → EndsWith posted last
    → AreReleased (slice_index last.vec p) outputs

-- what holds of every harvest in a cluster of n processes that run these programs
pub record IsHarvest (programs : List Program) (n : ℕ) (over_clean : Type 0) (h : HarvestState) : Type 0 where
  pub stay : StayReleased h.seen h.own h.outputs.items
  pub made : over_clean → AreMade programs n h.own h.outputs.items

-- each is of the process at its place
abbrev pub AreOwn : List HarvestState → Type 0
AreOwn harvests = (p : ℕ) (h : HarvestState) → slice_get harvests p ≡ Some h → h.own ≡ p

-- the outputs of each harvest
abbrev pub harvested : List HarvestState → List (Vec Output Global)
harvested harvests = map (λ h. h.outputs) harvests

-- these are all that this manager has released of a process
abbrev pub AreAllOf : ManagerState → ℕ → List Output → Type 0
AreAllOf m p outputs = map held_of outputs ≡ released_by m p
