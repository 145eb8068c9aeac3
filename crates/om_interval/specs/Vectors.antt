use Rattle.std.specs.Prelude.{◌≡◌, ℕ, ◌-◌, ◌<◌, ◌≤◌, ◌++◌, List, length, replicate, slice_index}
use Rattle.om_interval.specs.declared.pid.TheConstants.{MAX_PROCESSES}

-- the first vector is at most the second, place by place
pub record IsBelow (low high : List ℕ) : Type 0 where
  pub same_places : length low ≡ length high
  pub each : (place : ℕ) → place < length low → slice_index low place ≤ slice_index high place

-- the numbers of a vector as words: behind them zeros, up to the limit of processes
abbrev pub padded_words : List ℕ → List ℕ
padded_words vector = vector ++ replicate (MAX_PROCESSES - length vector) 0
