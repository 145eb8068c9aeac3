-- Bounds of what a process keeps for processes that take no message any more.
use Rattle.std.specs.Prelude.{◌≡◌, ℕ, ◌⊎◌, All, List}

-- each of the bounds is the least number, or the greatest: nothing stands below it, or all
abbrev pub AreAllOrNone : List ℕ → Type 0
AreAllOrNone bounds = All (λ bound. (bound ≡ 0) ⊎ (bound ≡ 0xFFFF_FFFF)) bounds
