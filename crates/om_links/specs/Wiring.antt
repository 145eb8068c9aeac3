-- How the inboxes of a cluster are made.
use Rattle.std.specs.Prelude.{◌≡◌, ℕ, List, Some, length, slice_get}
use Rattle.om_links.specs.declared.network.Ends.{Ends}
use Rattle.om_links.specs.Network.{ArePuts, AreTakes, IsNetwork, Lines}

-- what one process has
pub record HasEnds (n : ℕ) (lines : Lines) (p : ℕ) (e : Ends) : Type 0 where
  pub put : length e.puts.items ≡ n
  pub take : length e.takes.items ≡ n
  pub putting : ArePuts lines p e.puts.items
  pub taking : AreTakes lines p e.takes.items

-- all that n processes need
pub record IsWired (n : ℕ) (lines : Lines) (ends : List Ends) : Type 0 where
  pub network : IsNetwork n lines
  pub many : length ends ≡ n
  pub have : (p : ℕ) (e : Ends) → slice_get ends p ≡ Some e → HasEnds n lines p e
