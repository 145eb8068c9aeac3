-- The inboxes of a cluster, and the passes of them that each process has.
use Rattle.std.specs.Prelude.{◌≡◌, ℕ, List, Some, Vec, length, slice_get}
use Rattle.std.specs.declared.alloc.Global.{Global}
use Rattle.om_board.specs.Inboxes.{Line, Traffic, Takings}

-- inboxes by sender, and there by receiver
abbrev pub Lines : Type 0
Lines = List (Vec Line Global)

-- the inbox from one process to another
abbrev pub IsAt : Lines → ℕ → ℕ → Line → Type 0
IsAt lines from to line = (row : Vec Line Global) × (slice_get lines from ≡ Some row) × (slice_get row.items to ≡ Some line)

-- there is an inbox from each process to each
pub record IsNetwork (n : ℕ) (lines : Lines) : Type 0 where
  pub senders : length lines ≡ n
  pub receivers : (from : ℕ) (row : Vec Line Global) → slice_get lines from ≡ Some row → length row.items ≡ n
  pub from : (from to : ℕ) (line : Line) → IsAt lines from to line → line.from ≡ from
  pub to : (from to : ℕ) (line : Line) → IsAt lines from to line → line.to ≡ to

-- the passes to put are those of one sender, by receiver
abbrev pub ArePuts : Lines → ℕ → List Traffic → Type 0
ArePuts lines from puts = (to : ℕ) (t : Traffic) → slice_get puts to ≡ Some t → IsAt lines from to t.line

-- the passes to take are those of one receiver, by sender
abbrev pub AreTakes : Lines → ℕ → List Takings → Type 0
AreTakes lines to takes = (from : ℕ) (t : Takings) → slice_get takes from ≡ Some t → IsAt lines from to t.line
