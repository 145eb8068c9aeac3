use Rattle.std.specs.Prelude.{◌≡◌, ℕ, ◌+◌, ◌-◌, ◌<◌, ◌≤◌, ◌^◌, List, [], ◌∷◌, ◌++◌, length, slice_index, slice_index_or, Bool, true, false}
use Rattle.om_interval.specs.declared.pid.TheConstants.{MAX_PROCESSES}

-- the starts of a process's incarnations, by incarnation; none for a process that is not there
abbrev pub starts_of : List (List ℕ) → ℕ → List ℕ
starts_of starts p = slice_index_or starts p []

-- the newest incarnation of a process
abbrev pub newest_of : List (List ℕ) → ℕ → ℕ
newest_of starts p = length (starts_of starts p) - 1

-- the starts of one process: incarnation 0 starts at interval 0, no start falls, and incarnations are numbers of 32 bits
pub record AreStarts (starts : List ℕ) : Type 0 where
  pub some : 0 < length starts
  pub first : slice_index starts 0 ≡ 0
  pub rising : (inc : ℕ) → inc + 1 < length starts → slice_index starts inc ≤ slice_index starts (inc + 1)
  pub numbered : length starts ≤ 2 ^ 32

-- a message with this tag is an orphan: the next incarnation of its sender began at or below the interval in which it
-- was sent (after Strom and Yemini 1985)
pub record IsOrphan (starts : List (List ℕ)) (sender inc interval : ℕ) : Type 0 where
  pub succeeded : inc + 1 < length (starts_of starts sender)
  pub cut : slice_index (starts_of starts sender) (inc + 1) ≤ interval

-- whether a process is named
abbrev pub is_named : List Bool → ℕ → Bool
is_named who p = slice_index_or who p false

-- each named process may begin an incarnation right above its place of the state: its starts do not fall, and its
-- incarnations stay numbers of 32 bits
pub record MayBegin (who : List Bool) (state : List ℕ) (starts : List (List ℕ)) : Type 0 where
  pub processes : length state ≡ length starts
  pub rising : (p : ℕ) → p < length starts → is_named who p ≡ true
      → slice_index (starts_of starts p) (newest_of starts p) ≤ slice_index state p + 1
  pub numbered : (p : ℕ) → p < length starts → is_named who p ≡ true → length (starts_of starts p) < 2 ^ 32

-- each named process has one incarnation more, which starts right above its place of the state; the others have theirs
pub record BeginIncarnations (who : List Bool) (state : List ℕ) (old new : List (List ℕ)) : Type 0 where
  pub processes : length new ≡ length old
  pub named : (p : ℕ) → p < length old → is_named who p ≡ true → starts_of new p ≡ starts_of old p ++ (slice_index state p + 1) ∷ []
  pub others : (p : ℕ) → p < length old → is_named who p ≡ false → starts_of new p ≡ starts_of old p

-- the starts of a cluster's processes
pub record AllAreStarts (starts : List (List ℕ)) : Type 0 where
  pub some : 1 ≤ length starts
  pub within : length starts ≤ MAX_PROCESSES
  pub each : (p : ℕ) → p < length starts → AreStarts (starts_of starts p)
