-- Which of the stops back is the last, while one process after another goes back to its own.
use Rattle.std.specs.Prelude.{◌≡◌, ◌≢◌, ◌⊎◌, ℕ, ◌<◌, List, Option, Some, slice_get}
use Rattle.om_timeline.specs.Timeline.{IsUpTo}
use Rattle.om_debug.specs.declared.stop.Stop.{Stop}
use Rattle.om_debug.specs.Stops.{IsLookedBack}
use Rattle.om_inferiors.specs.declared.inferior.Inferior.{Inferior}
use Rattle.om_inferiors.specs.Moving.{IsRunBackAt, StopsBy}

-- the one at a place is not another one's, or it is that of the first, who stands where it stood
abbrev pub IsFoundAt : List Inferior → List Inferior → ℕ → Stop → ℕ → Stop → Type 0
IsFoundAt olds news first its_stop place stop =
    ((place ≡ first) × (stop ≡ its_stop)) ⊎ ((place ≢ first) × IsRunBackAt olds news place stop)

-- of the processes at two places the first stands where the other does, or before it
abbrev pub IsBehindAt : List Inferior → ℕ → ℕ → Type 0
IsBehindAt all one other = (here there : Inferior) → slice_get all one ≡ Some here → slice_get all other ≡ Some there
    → IsUpTo here.debugger.timeline.event here.debugger.timeline.turns there.debugger.timeline.event there.debugger.timeline.turns

-- one more has gone back to its own stop, which is not before that of another one
pub record IsOwnLater (olds news : List Inferior) (last place later : ℕ) (stop : Stop) : Type 0 where
  pub which : later ≡ place
  pub run : IsRunBackAt olds news place stop
  pub order : IsBehindAt news last place

-- the one that was last before has gone back to its own stop, and the stop of one more is not behind that
pub record IsStillLast (olds news : List Inferior) (last : ℕ) (its_stop : Stop) (place later : ℕ) (stop : Stop) : Type 0 where
  pub which : later ≡ last
  pub same : stop ≡ its_stop
  pub by : (old new : Inferior) → slice_get olds place ≡ Some old → slice_get news last ≡ Some new → StopsBy old new.debugger.timeline.event new.debugger.timeline.turns

-- of the last one before and one more this is the later
abbrev pub IsLaterOf : List Inferior → List Inferior → ℕ → Stop → ℕ → ℕ → Stop → Type 0
IsLaterOf olds news last its_stop place later stop = IsOwnLater olds news last place later stop ⊎ IsStillLast olds news last its_stop place later stop

-- the process at a place has looked back no further than to before an event
pub record IsLookedBackAt (olds news : List Inferior) (place event : ℕ) (stop : Option Stop) : Type 0 where
  pub old : Inferior
  pub new : Inferior
  pub was : slice_get olds place ≡ Some old
  pub is : slice_get news place ≡ Some new
  pub back : IsLookedBack event old.debugger new.debugger stop

-- the last stop of the first, who has one, and of the others up to this place
pub record IsLastUpTo (olds news : List Inferior) (first : ℕ) (its_stop : Stop) (upto place : ℕ) (stop : Stop) : Type 0 where
  pub new : Inferior
  pub is_there : slice_get news place ≡ Some new
  pub kept : slice_get news first ≡ slice_get olds first
  pub found : IsFoundAt olds news first its_stop place stop
  pub others : (k : ℕ) (other : Inferior) → k < upto → slice_get olds k ≡ Some other → k ≢ first → StopsBy other new.debugger.timeline.event new.debugger.timeline.turns
  pub order : (f : Inferior) → slice_get olds first ≡ Some f → IsUpTo f.debugger.timeline.event f.debugger.timeline.turns new.debugger.timeline.event new.debugger.timeline.turns

-- those from a place on stand where they stood
abbrev pub AreUntouched : List Inferior → List Inferior → ℕ → Type 0
AreUntouched olds news upto = (k : ℕ) → (k < upto → ⊥) → slice_get news k ≡ slice_get olds k

-- all stay as they were but the one at this place
abbrev pub OthersStay : {A : Type 0} → ℕ → List A → List A → Type 0
OthersStay place old new = (k : ℕ) → k ≢ place → slice_get new k ≡ slice_get old k
