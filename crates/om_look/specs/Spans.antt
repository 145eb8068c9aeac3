-- Intervals as ranges.
use Rattle.std.specs.Prelude.{◌⊎◌, ℕ, ◌+◌, ◌-◌, ◌<◌, ◌≤◌, List, [], ◌∷◌, ◌++◌, codes, decimal}
use Rattle.std.specs.List.{flat_map}
use Rattle.om_look.specs.declared.spans.Span.{Span}

-- the interval lies in one of the ranges
abbrev pub IsCovered : List Span → ℕ → Type 0
IsCovered [] y = ⊥
IsCovered (span ∷ spans) y = ((span.first ≤ y) × (y < span.stop)) ⊎ IsCovered spans y

-- the ranges begin at an interval or above, none is empty, they rise, and between two of them an interval lies in none
abbrev pub AreApart : ℕ → List Span → Type 0
AreApart low [] = Unit {0}
AreApart low (span ∷ spans) = (low ≤ span.first) × (span.first < span.stop) × AreApart (span.stop + 1) spans

-- a line for each range, with its first interval and its last
abbrev pub spans_text : List Span → List ℕ
spans_text spans = flat_map (λ span. codes "replay " ++ decimal span.first ++ codes " to " ++ decimal (span.stop - 1) ++ 10 ∷ []) spans
