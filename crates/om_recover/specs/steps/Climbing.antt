-- What a climb and its steps promise.
use Rattle.std.specs.Prelude.{◌≡◌, ℕ, ◌+◌, ◌-◌, ◌*◌, ◌<◌, ◌≤◌, ◌⊎◌, Option, MatchOption, List, [], ◌∷◌, ◌++◌, All, length, sum, slice_index}
use Rattle.om_interval.specs.Vectors.{IsBelow}
use Rattle.om_recover.specs.Rows.{Rows, HasRow}
use Rattle.om_recover.specs.Recoverable.{IsStable, IsRecoverable}
use Rattle.om_recover.specs.Attempts.{Attempt}
use Rattle.om_recover.specs.Climb.{IsLeastStable, AreLooks, IsClimbed}
use Rattle.om_recover.specs.Counted.{IsLater, AreInTurn, IsSearched}
use Rattle.om_recover.specs.declared.row.Row.{Row}

-- an attempt was added, of that start and state
pub record IsAttempted (rows : Rows) (state : List ℕ) (p x : ℕ) (old new : List Attempt) : Type 0 where
  pub looks : List (ℕ × ℕ)
  pub added : new ≡ record { pid = p; interval = x; state = state; looks = looks } ∷ old
  pub lawful : AreLooks rows state p x looks

-- the attempts before the newest
abbrev pub without_newest : List Attempt → List Attempt
without_newest [] = []
without_newest (newest ∷ older) = older

-- the looks of an attempt so far: each is at most the interval of its process that was read last
pub record HasLooked (rows : Rows) (state : List ℕ) (p x : ℕ) (looked : List ℕ) (looks : List (ℕ × ℕ)) : Type 0 where
  pub lawful : AreLooks rows state p x looks
  pub seen : All (λ look. look.1 ≤ slice_index looked look.0) looks

-- an attempt of that start and state is under way, and has looked so far
pub record IsUnderWay (rows : Rows) (state : List ℕ) (p x : ℕ) (looked : List ℕ) (old new : List Attempt) : Type 0 where
  pub looks : List (ℕ × ℕ)
  pub added : new ≡ record { pid = p; interval = x; state = state; looks = looks } ∷ old
  pub looked_at : HasLooked rows state p x looked looks

-- each place of the vector that is beyond the state is raised to its process's least stable interval there
pub record IsForced (rows : Rows) (state vec higher : List ℕ) : Type 0 where
  pub places : length higher ≡ length state
  pub kept : (j : ℕ) → j < length state → slice_index vec j ≤ slice_index state j → slice_index higher j ≡ slice_index state j
  pub raised : (j : ℕ) → j < length state → slice_index state j < slice_index vec j
      → IsLeastStable rows j (slice_index vec j) (slice_index higher j)

-- the vector names an interval of the process beyond the state, at or above which it has no stable one
pub record IsBlocked (rows : Rows) (state vec : List ℕ) (at : ℕ) : Type 0 where
  pub within : at < length state
  pub beyond : slice_index state at < slice_index vec at
  pub none : (z : ℕ) → IsStable rows at z → slice_index vec at ≤ z → ⊥

-- at most one attempt for each process was added
pub record ArePassed (n : ℕ) (rows : Rows) (low high : List ℕ) (p : ℕ) (old new : List Attempt) : Type 0 where
  pub made : List Attempt
  pub added : new ≡ made ++ old
  pub few : length made ≤ p
  pub later : All (IsLater n rows low high) made
  pub turns : AreInTurn n rows low made high

-- passes were made from one state to another: at most n attempts for each interval by which the state was raised, and n in vain
abbrev pub IsRaised : ℕ → Rows → List ℕ → List ℕ → List Attempt → List Attempt → Type 0
IsRaised n rows low high old new = ArePassed n rows low high (n * (sum high - sum low) + n) old new

-- `IsNeeded`, where each interval after the first is at most the bound's place
pub data IsNeededWithin (rows : Rows) (state bound : List ℕ) (p x : ℕ) : ℕ → ℕ → Type 0 where
  begins : IsNeededWithin rows state bound p x p x
  leads : (row : Row) (j y : ℕ) → IsNeededWithin rows state bound p x row.pid row.interval → HasRow rows row
      → slice_index state j < slice_index row.vec j
      → IsLeastStable rows j (slice_index row.vec j) y → y ≤ slice_index bound j → IsNeededWithin rows state bound p x j y

-- what a climb knows: the state reached so far, and per process the interval whose vector was read last
pub record IsClimbing (n : ℕ) (rows : Rows) (state : List ℕ) (p x : ℕ) (reached looked : List ℕ) : Type 0 where
  pub reached_places : length reached ≡ n
  pub looked_places : length looked ≡ n
  pub from_state : IsBelow state looked
  pub behind : IsBelow looked reached
  pub started : x ≤ slice_index reached p
  pub stable : (q : ℕ) → q < n → IsStable rows q (slice_index reached q)
  pub needed : (q : ℕ) → q < n → slice_index state q < slice_index reached q
      → IsNeededWithin rows state reached p x q (slice_index reached q)
  pub closed : (row : Row) → HasRow rows row → row.interval ≡ slice_index looked row.pid → IsBelow row.vec reached
  pub forced : (other : List ℕ) → IsRecoverable n rows other → IsBelow state other → x ≤ slice_index other p → IsBelow reached other

-- a row that is needed within a bound names an interval of the process beyond the state, and this is its least stable one there
pub record IsDemanded (rows : Rows) (state bound : List ℕ) (p x q y : ℕ) : Type 0 where
  pub row : Row
  pub there : HasRow rows row
  pub needed : IsNeededWithin rows state bound p x row.pid row.interval
  pub beyond : slice_index state q < slice_index row.vec q
  pub least : IsLeastStable rows q (slice_index row.vec q) y

-- what a climb knows of the intervals that it passed: what it reached beyond them, these demand
pub record IsPassing (n : ℕ) (rows : Rows) (state : List ℕ) (p x : ℕ) (reached passed : List ℕ) : Type 0 where
  pub places : length passed ≡ n
  pub started : x ≤ slice_index passed p
  pub within : (q : ℕ) → q < n → slice_index passed q ≤ slice_index reached q
  pub stable : (q : ℕ) → q < n → slice_index state q < slice_index passed q → IsStable rows q (slice_index passed q)
  pub needed : (q : ℕ) → q < n → slice_index state q < slice_index passed q
      → IsNeededWithin rows state passed p x q (slice_index passed q)
  pub demanded : (q : ℕ) → q < n → slice_index passed q < slice_index reached q
      → IsDemanded rows state passed p x q (slice_index reached q)

-- what is told of the least stable interval of the process at or above an interval
abbrev pub TellsLeast : Rows → ℕ → ℕ → Option ℕ → Type 0
TellsLeast rows p from told = MatchOption told ((z : ℕ) → IsStable rows p z → from ≤ z → ⊥) (IsLeastStable rows p from)

-- no stable interval of the process is above this one
abbrev pub EndsBy : Rows → ℕ → ℕ → Type 0
EndsBy rows p x = (z : ℕ) → IsStable rows p z → z ≤ x

-- no process has a stable interval above its place of the state
abbrev pub AllEndBy : Rows → List ℕ → Type 0
AllEndBy rows state = (p : ℕ) → p < length state → EndsBy rows p (slice_index state p)

-- no recoverable state has process p at x or above
abbrev pub IsOutOfReach : ℕ → Rows → ℕ → ℕ → Type 0
IsOutOfReach n rows p x = (other : List ℕ) → IsRecoverable n rows other → slice_index other p < x

-- what comes of a climb
abbrev pub TellsClimb : ℕ → Rows → List ℕ → ℕ → ℕ → Option (List ℕ) → Type 0
TellsClimb n rows state p x told = MatchOption told (IsOutOfReach n rows p x) (IsClimbed n rows state p x)

-- a search from the higher of two intervals, or, where none has the process there, an attempt at it and a search from the lower
pub data IsSearchedByEither (n : ℕ) (rows : Rows) (state : List ℕ) (p low high : ℕ) (raised : List ℕ) (old new : List Attempt) : Type 0 where
  from_high : IsSearched n rows state p high raised old new → IsSearchedByEither n rows state p low high raised old new
  from_low : (mid : List Attempt) → IsAttempted rows state p high old mid → IsOutOfReach n rows p high → IsSearched n rows state p low raised mid new
      → IsSearchedByEither n rows state p low high raised old new

-- where a climb begins, unless it is known to fail
abbrev pub TellsBegin : ℕ → Rows → List ℕ → ℕ → ℕ → Option (List ℕ) → Type 0
TellsBegin n rows state p x told = MatchOption told (IsOutOfReach n rows p x) (λ reached. IsClimbing n rows state p x reached state)

-- a process that is lower in the first vector, if the vectors differ
abbrev pub TellsBehind : List ℕ → List ℕ → Option ℕ → Type 0
TellsBehind looked reached told =
    MatchOption told (looked ≡ reached) (λ q. (q < length looked) × (slice_index looked q < slice_index reached q))

-- each recoverable state is within the state, or has the process at the interval or above
abbrev pub AreWithinOrStarted : ℕ → Rows → List ℕ → ℕ → ℕ → Type 0
AreWithinOrStarted n rows state p x = (other : List ℕ) → IsRecoverable n rows other → IsBelow other state ⊎ (x ≤ slice_index other p)

-- no recoverable state has a process above its place of the state
abbrev pub IsAtRest : ℕ → Rows → List ℕ → Type 0
IsAtRest n rows state = (p : ℕ) → p < n → IsOutOfReach n rows p (slice_index state p + 1)
