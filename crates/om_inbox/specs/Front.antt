-- Bytes that were read and nobody has taken yet.
use Rattle.std.specs.Prelude.{ℕ, ◌==◌, List, length, max, min, Option, None, Some, position}
use Rattle.om_inbox.specs.declared.front.TheConstants.{WISH}

-- how many may be taken at once, where the first wish stands there: all before it, or the wish alone
abbrev pub reach_to : Option ℕ → ℕ → ℕ
reach_to None count = count
reach_to (Some before) count = max before 1

abbrev pub reach : List ℕ → ℕ
reach bytes = reach_to (position (λ b. b == WISH) bytes) (length bytes)

-- how many a reading takes for which there is so much room
abbrev pub taken : List ℕ → ℕ → ℕ
taken bytes room = min (reach bytes) room
