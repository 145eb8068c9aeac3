-- Ranges of intervals, and records up to one.
use Rattle.std.specs.Prelude.{ℕ, ◌-◌, ◌<◌, ◌≤◌, List, [], ◌∷◌, ◌++◌, codes, decimal, filter, nat_le}
use Rattle.std.specs.FinMap.{entries}
use Rattle.om_stable.specs.Content.{Records}
use Rattle.om_look.specs.declared.spans.Span.{Span}

-- the interval lies in the range
abbrev pub LiesIn : ℕ → Span → Type 0
LiesIn y span = (span.first ≤ y) × (y < span.stop)

-- a line for each range, with its first interval and its last
abbrev pub span_line : Span → List ℕ
span_line span = codes "replay " ++ decimal span.first ++ codes " to " ++ decimal (span.stop - 1) ++ 10 ∷ []

-- the records at or below an interval, in ascending order
abbrev pub up_to : Records → ℕ → List (ℕ × List ℕ)
up_to held last = filter (λ e. nat_le e.0 last) (entries held)
