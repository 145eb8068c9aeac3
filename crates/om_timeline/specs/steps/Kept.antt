-- Machines that are kept of positions of a tape.
use Rattle.std.specs.Prelude.{◌≡◌, ℕ, List, All}
use Rattle.om_machine.specs.State.{State}
use Rattle.om_timeline.specs.declared.stage.Stage.{Stage}
use Rattle.om_timeline.specs.Timeline.{IsUpTo, TimelineState, at}
use Rattle.om_timeline.specs.steps.Reels.{ReelState}
use Rattle.om_timeline.specs.steps.Placed.{IsPlaced}

-- the machine is the one of its position
abbrev pub IsStage : ReelState → Stage → Type 0
IsStage t s = IsPlaced t s.machine t.own t.n s.at.event s.at.turns

-- a machine at a position of a tape, and others that are kept
pub record IsKept (t : ReelState) (machine : State) (own n event turns : ℕ) (others : List Stage) : Type 0 where
  pub placed : IsPlaced t machine own n event turns
  pub stages : All (IsStage t) others

-- the second timeline is the first at a position that is not behind this one
pub record IsComing (old new : TimelineState) (to done : ℕ) : Type 0 where
  pub event : ℕ
  pub turns : ℕ
  pub order : IsUpTo event turns to done
  pub is : new ≡ at old event turns
