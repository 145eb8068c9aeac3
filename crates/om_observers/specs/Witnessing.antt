-- What is kept of what one process did.
use Rattle.std.specs.Prelude.{ℕ, List, Bool}

-- whether receipts are added; by receipt, from the first on, the place of its sender; and how many instructions were finished,
-- which is told as the process ends
pub record PastState : Type 0 where
  pub keeps : Bool
  pub senders : List ℕ
  pub count : ℕ
