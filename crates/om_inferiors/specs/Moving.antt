-- Several processes of a record, forward and back.
use Rattle.std.specs.Prelude.{◌≡◌, ◌≢◌, ◌⊎◌, ℕ, List, Some, slice_get}
use Rattle.std.specs.List.{AllZip}
use Rattle.om_debug.specs.declared.stop.Stop.{Stop}
use Rattle.om_debug.specs.declared.stop.Stop.TheVariants as stops
use Rattle.om_timeline.specs.Timeline.{IsUpTo}
use Rattle.om_debug.specs.Stops.{DebugState, IsMoved, IsPassed, IsRunBack, IsStepBack, IsWithin, StandsFor, standing, with_timeline}
use Rattle.om_inferiors.specs.declared.inferior.Inferior.{Inferior}

-- the same process with another debugger
abbrev pub with_debugger : Inferior → DebugState → Inferior
with_debugger i d = record i { debugger = d }

-- a process has gone on: nothing stops it at any position that it passed
pub record IsGoneOn (old new : Inferior) : Type 0 where
  pub same : new ≡ with_debugger old (with_timeline old.debugger new.debugger.timeline)
  pub within : IsWithin old.debugger.timeline
  pub moved : IsMoved old.debugger.timeline new.debugger.timeline
  pub passed : IsPassed old.debugger new.debugger

-- a process has gone on, or stands where it stood
abbrev pub IsOn : Inferior → Inferior → Type 0
IsOn old new = (new ≡ old) ⊎ IsGoneOn old new

-- each process has gone on, or stands where it stood
abbrev pub AreOn : List Inferior → List Inferior → Type 0
AreOn olds news = AllZip IsOn olds news

-- the process at a place stands where it does for this
pub record StandsAt (all : List Inferior) (place : ℕ) (stop : Stop) : Type 0 where
  pub inferior : Inferior
  pub is_there : slice_get all place ≡ Some inferior
  pub stands : StandsFor inferior.debugger stop

-- a process stands at another position of what was played
abbrev pub IsBack : Inferior → Inferior → Type 0
IsBack old new = new ≡ with_debugger old (standing old.debugger new.debugger.timeline.event new.debugger.timeline.turns)

abbrev pub AreBack : List Inferior → List Inferior → Type 0
AreBack olds news = AllZip IsBack olds news

-- the process at a place has gone back to a stop
pub record IsRunBackAt (olds news : List Inferior) (place : ℕ) (stop : Stop) : Type 0 where
  pub old : Inferior
  pub new : Inferior
  pub was : slice_get olds place ≡ Some old
  pub is : slice_get news place ≡ Some new
  pub back : IsRunBack old.debugger new.debugger stop

-- the process at a place has gone back by a step
pub record IsStepBackAt (olds news : List Inferior) (place : ℕ) (stop : Stop) : Type 0 where
  pub old : Inferior
  pub new : Inferior
  pub was : slice_get olds place ≡ Some old
  pub is : slice_get news place ≡ Some new
  pub back : IsStepBack old.debugger new.debugger stop

abbrev pub IsToldBack : List Inferior → List Inferior → ℕ → Stop → Type 0
IsToldBack olds news place stop = IsRunBackAt olds news place stop ⊎ IsStepBackAt olds news place stop

-- the own last stop of a process that goes back, or by a step, is at this position or before it: it would stand there, or nothing
-- stops it from there on
pub record StopsBy (old : Inferior) (event turns : ℕ) : Type 0 where
  pub there : DebugState
  pub stop : Stop
  pub same : there ≡ standing old.debugger there.timeline.event there.timeline.turns
  pub back : IsRunBack old.debugger there stop ⊎ IsStepBack old.debugger there stop
  pub order : IsUpTo there.timeline.event there.timeline.turns event turns

-- of all that go back the one at a place stops last: it has gone to its own last stop, or by a step, and that of each other one is not later
pub record IsLastOf (olds news : List Inferior) (place : ℕ) (stop : Stop) : Type 0 where
  pub new : Inferior
  pub is_there : slice_get news place ≡ Some new
  pub told : IsToldBack olds news place stop
  pub others : (k : ℕ) (other : Inferior) → slice_get olds k ≡ Some other → k ≢ place → StopsBy other new.debugger.timeline.event new.debugger.timeline.turns

-- nothing came to the one that was to go back by a step, and nobody has moved
pub record IsNoStepBack (olds news : List Inferior) (place : ℕ) (stop : Stop) : Type 0 where
  pub begin : stop ≡ stops.Begin
  pub told : IsStepBackAt olds news place stop
  pub stays : news ≡ olds

-- a process stands anywhere in what was played, of which more may have been played
pub record IsMovedOne (old new : Inferior) : Type 0 where
  pub same : new ≡ with_debugger old (with_timeline old.debugger new.debugger.timeline)
  pub moved : IsMoved old.debugger.timeline new.debugger.timeline
