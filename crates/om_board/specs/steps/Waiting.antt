-- Processes that wait.
use Rattle.std.specs.Prelude.{◌≡◌, ℕ, ◌<◌, List, true, slice_index_or}
use Rattle.om_board.specs.Waits.{waits}
use Rattle.om_board.specs.declared.waiting.Waiting.{Waiting}
use Rattle.om_board.specs.declared.waiting.Waiting.TheVariants.{Owes}

-- each of the first n processes waits
abbrev pub DoWait : ℕ → List Waiting → Type 0
DoWait n waiting = (p : ℕ) → p < n → waits (slice_index_or waiting p Owes) ≡ true
