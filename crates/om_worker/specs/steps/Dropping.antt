-- What a process drops of its messages to processes that take none any more.
use Rattle.std.specs.Prelude.{◌≡◌, ℕ, ◌⊎◌, List, [], ◌∷◌, ◌++◌}
use Rattle.om_process.specs.Core.{CoreState, with_now}
use Rattle.om_process.specs.Trims.{trimmed}
use Rattle.om_links.specs.Dropping.{AreAllOrNone}

-- all messages to some processes are dropped, or none, and no output; the rest is as it was
abbrev pub HasDropped : CoreState → CoreState → Type 0
HasDropped old new =
    (new ≡ old)
    ⊎ ((bounds : List ℕ) × AreAllOrNone bounds × (new ≡ with_now old (trimmed (bounds ++ 0 ∷ []) old.now)))
