use Rattle.std.proofs.Common.{◌≡◌, ℕ, ◌<◌, ◌≤◌, ◌⊎◌, slice_index_or, None, MatchOption}
use Rattle.std.specs.Prelude.{⊤}
use Rattle.om_recover.specs.steps.Memory.{IsPartWithin, IsUpTo}
use Rattle.om_recover.proofs.search.failed_climbs.FailedClimbs.forget.Given as goal

-- the processes before have what is left, and those behind are as they were
abbrev pub invariant-loop-p : goal.invariant-loop-p
invariant-loop-p l = record {
  before : (q : ℕ) → q < l.p → IsPartWithin (slice_index_or l.fn.self.places q None) l.pid l.x (slice_index_or l.self.places q None)
      ⊎ ((slice_index_or l.self.places q None ≡ slice_index_or l.fn.self.places q None) × MatchOption (slice_index_or l.fn.self.places q None) ⊤ (IsUpTo l.pid l.x));
  behind : (q : ℕ) → l.p ≤ q → slice_index_or l.self.places q None ≡ slice_index_or l.fn.self.places q None;
}
