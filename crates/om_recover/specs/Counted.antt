use Rattle.std.specs.Prelude.{◌≡◌, ℕ, ◌+◌, ◌-◌, ◌*◌, ◌<◌, ◌≤◌, List, [], ◌∷◌, ◌++◌, All, length, sum, slice_index}
use Rattle.om_interval.specs.Vectors.{IsBelow}
use Rattle.om_recover.specs.Rows.{Rows}
use Rattle.om_recover.specs.Recoverable.{IsStable, IsRecoverable}
use Rattle.om_recover.specs.Records.{Kept}
use Rattle.om_recover.specs.Attempts.{Attempt}
use Rattle.om_recover.specs.Climb.{IsLeastStable, AreLooks, IsClimbed}

-- of the process's intervals above the floor that were not stable before, the least
pub record IsLeastNew (before after : Rows) (p floor x : ℕ) : Type 0 where
  pub stable : IsStable after p x
  pub new : IsStable before p x → ⊥
  pub above : floor < x
  pub least : (y : ℕ) → IsStable after p y → floor < y → y < x → IsStable before p y

-- an attempt that climbs from a recoverable state between the two, from a process's least stable interval above it
pub record IsLater (n : ℕ) (rows : Rows) (low high : List ℕ) (attempt : Attempt) : Type 0 where
  pub process : attempt.pid < n
  pub recoverable : IsRecoverable n rows attempt.state
  pub above : IsBelow low attempt.state
  pub below : IsBelow attempt.state high
  pub start : IsLeastStable rows attempt.pid (slice_index attempt.state attempt.pid + 1) attempt.interval
  pub looks : AreLooks rows attempt.state attempt.pid attempt.interval attempt.looks

-- what an attempt comes to: the least recoverable state at or above its start, or, where none has the process there, the
-- state that it began from
pub data AttemptComesTo (n : ℕ) (rows : Rows) (state : List ℕ) (p x : ℕ) (reached : List ℕ) : Type 0 where
  climbs : IsClimbed n rows state p x reached → AttemptComesTo n rows state p x reached
  fails : ((other : List ℕ) → IsRecoverable n rows other → slice_index other p < x) → reached ≡ state → AttemptComesTo n rows state p x reached

-- attempts, the latest first, of which each begins from what the one before it came to: from one state to another
pub data AreInTurn (n : ℕ) (rows : Rows) (low : List ℕ) : List Attempt → List ℕ → Type 0 where
  nothing : AreInTurn n rows low [] low
  one_more : (attempt : Attempt) (earlier : List Attempt) (reached : List ℕ) → AreInTurn n rows low earlier attempt.state
      → AttemptComesTo n rows attempt.state attempt.pid attempt.interval reached → AreInTurn n rows low (attempt ∷ earlier) reached

-- the attempts of a search that raised one state to another: the first climbs from the state, from the interval given;
-- each later one begins from what was reached by then; and there are at most n of them for each interval by which the
-- state was raised
pub record IsSearched (n : ℕ) (rows : Rows) (state : List ℕ) (p x : ℕ) (raised : List ℕ) (old new : List Attempt) : Type 0 where
  pub made : List Attempt
  pub looks : List (ℕ × ℕ)
  pub reached : List ℕ
  pub added : new ≡ made ++ record { pid = p; interval = x; state = state; looks = looks } ∷ old
  pub first : AreLooks rows state p x looks
  pub comes : AttemptComesTo n rows state p x reached
  pub turns : AreInTurn n rows reached made raised
  pub few : length made ≤ n * (sum raised - sum state)
  pub later : All (IsLater n rows state raised) made

-- the attempts of a note: none where no interval of the process becomes stable above the state, else those of a search
-- from the least that does
pub data IsCounted (n : ℕ) (before after : Rows) (p : ℕ) (state raised : List ℕ) (old new : List Attempt) : Type 0 where
  uncounted : ((y : ℕ) → IsStable after p y → slice_index state p < y → IsStable before p y) → new ≡ old
      → IsCounted n before after p state raised old new
  searched : (x : ℕ) → IsLeastNew before after p (slice_index state p) x → IsSearched n after state p x raised old new
      → IsCounted n before after p state raised old new

-- an interval of the process above the floor that was not stable before
pub record IsNewAbove (before after : Rows) (p floor x : ℕ) : Type 0 where
  pub stable : IsStable after p x
  pub new : IsStable before p x → ⊥
  pub above : floor < x

-- the attempts of a note of several rows of a process: none where no interval of it becomes stable above the state, else those of a search
-- from one that does; or, where no recoverable state has the process there, an attempt at it and those of a search from the least that does
pub data IsCountedAtOnce (n : ℕ) (before after : Rows) (p : ℕ) (state raised : List ℕ) (old new : List Attempt) : Type 0 where
  no_search : ((y : ℕ) → IsStable after p y → slice_index state p < y → IsStable before p y) → new ≡ old
      → IsCountedAtOnce n before after p state raised old new
  one_search : (x : ℕ) → IsNewAbove before after p (slice_index state p) x → IsSearched n after state p x raised old new
      → IsCountedAtOnce n before after p state raised old new
  second_search : (high x : ℕ) (looks : List (ℕ × ℕ)) → IsNewAbove before after p (slice_index state p) high
      → AreLooks after state p high looks → ((other : List ℕ) → IsRecoverable n after other → slice_index other p < high)
      → IsLeastNew before after p (slice_index state p) x
      → IsSearched n after state p x raised (record { pid = p; interval = high; state = state; looks = looks } ∷ old) new
      → IsCountedAtOnce n before after p state raised old new

-- the attempts of a note of a process, from the records before it and after
abbrev pub IsCountedNote : Kept → Kept → ℕ → List Attempt → List Attempt → Type 0
IsCountedNote before after p old new = IsCounted (length before.state) before.rows after.rows p before.state after.state old new

-- the attempts of a note of several rows of a process
abbrev pub AreCountedNotes : Kept → Kept → ℕ → List Attempt → List Attempt → Type 0
AreCountedNotes before after p old new = IsCountedAtOnce (length before.state) before.rows after.rows p before.state after.state old new
