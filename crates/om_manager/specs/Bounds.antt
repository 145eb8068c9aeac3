use Rattle.std.specs.Prelude.{◌≡◌, ℕ, ◌<◌, List, length, slice_index}
use Rattle.om_recover.specs.Rows.{Rows}
use Rattle.om_recover.specs.Cutting.{IsGotFrom}

-- by receiver, how many messages from the sender it had got in its place of the state
pub record AreGotFrom (rows : Rows) (state : List ℕ) (sender : ℕ) (counts : List ℕ) : Type 0 where
  pub places : length counts ≡ length state
  pub each : (receiver : ℕ) → receiver < length state
      → IsGotFrom rows receiver (slice_index state receiver) sender (slice_index counts receiver)
