-- A machine at a position of a tape.
use Rattle.std.specs.Prelude.{◌≡◌, ℕ, ◌≤◌, length}
use Rattle.om_machine.specs.State.{State}
use Rattle.om_timeline.specs.Deeds.{at_position, turns_at}
use Rattle.om_timeline.specs.Timeline.{TimelineState, at}
use Rattle.om_timeline.specs.steps.Reels.{ReelState}

-- the position is one of the tape, and the machine of the process is the one there
pub record IsPlaced (t : ReelState) (machine : State) (own n event turns : ℕ) : Type 0 where
  pub is_own : own ≡ t.own
  pub is_n : n ≡ t.n
  pub within : event ≤ length t.deeds
  pub few : turns ≤ turns_at t.deeds event
  pub here : machine ≡ at_position t.own t.n t.first t.deeds event turns

-- the second timeline is the first before an event that is not behind another one
pub record IsLeft (old new : TimelineState) (to : ℕ) : Type 0 where
  pub event : ℕ
  pub order : event ≤ to
  pub is : new ≡ at old event 0

-- the timeline is the same, at some position
abbrev pub StaysOf : TimelineState → TimelineState → Type 0
StaysOf old new = (event : ℕ) × (turns : ℕ) × (new ≡ at old event turns)
