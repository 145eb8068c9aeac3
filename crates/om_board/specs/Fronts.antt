use Rattle.std.specs.Prelude.{◌≡◌, ℕ, ◌<◌, ◌≤◌, List, [], ◌∷◌, ◌++◌, replicate, AllPairs}
use Rattle.om_interval.specs.Vectors.{IsBelow}
use Rattle.om_manager.specs.State.{ManagerState}
use Rattle.om_board.specs.declared.front.Front.{Front}

-- the front of a manager
abbrev pub front_of : ManagerState → Front
front_of m = record { version = m.version; round = m.round; vec = m.recovery }

-- the front of n processes at their start
abbrev pub first_front : ℕ → Front
first_front n = record { version = 0; round = 0; vec = replicate n 0 }

-- each part of the first front is at most that of the second
pub record IsAtMost (low high : Front) : Type 0 where
  pub version : low.version ≤ high.version
  pub round : low.round ≤ high.round
  pub vec : IsBelow low.vec high.vec

-- the second front has a higher version, and no number of it is lower
pub record Rises (low high : Front) : Type 0 where
  pub version : low.version < high.version
  pub at_most : IsAtMost low high

-- a list of fronts whose versions rise, and in which each front is at most those behind it
abbrev pub IsPosted : List Front → Type 0
IsPosted fronts = AllPairs Rises fronts

-- this is the last front of the list
abbrev pub EndsWith : List Front → Front → Type 0
EndsWith fronts last = (before : List Front) × (before ++ last ∷ [] ≡ fronts)

-- the list with a front that may follow it: the front is added where it rises above the last one
pub data Follows (old : List Front) (front : Front) (new : List Front) : Type 0 where
  again : EndsWith old front → new ≡ old → Follows old front new
  above : (last : Front) → EndsWith old last → Rises last front → new ≡ old ++ front ∷ [] → Follows old front new
