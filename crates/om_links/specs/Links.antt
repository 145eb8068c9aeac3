-- The ends of inboxes that one process has.
use Rattle.std.specs.Prelude.{◌≡◌, Bool, ℕ, ◌<◌, ◌≤◌, List, length}
use Rattle.om_interval.specs.declared.pid.TheConstants.{MAX_PROCESSES}
use Rattle.om_board.specs.Inboxes.{Traffic, Takings}
use Rattle.om_links.specs.Network.{Lines, IsNetwork, ArePuts, AreTakes}
use Rattle.om_process.specs.Process.{Process}
use Rattle.om_process.specs.Core.{cluster_size}

-- which process's ends of which network
pub record EndsState : Type 0 where
  pub own : ℕ
  pub n : ℕ
  pub lines : Lines

-- the ends of a process, how many messages it has put and taken, whether all that it keeps were put when it put them last, and
-- whether something is to be put though it sends nothing
pub record LinksState : Type 0 where
  pub ends : EndsState
  pub put : ℕ
  pub taken : ℕ
  pub has_put_all : Bool
  pub is_behind : Bool

-- the ends are those from before
abbrev pub KeepsEnds : LinksState → LinksState → Type 0
KeepsEnds old new = new.ends ≡ old.ends

-- whether all were put is as before
abbrev pub KeepsHasPutAll : LinksState → LinksState → Type 0
KeepsHasPutAll old new = new.has_put_all ≡ old.has_put_all

-- the process is one of as many
abbrev pub IsOfCluster : LinksState → Process → Type 0
IsOfCluster links now = cluster_size now ≡ links.ends.n

-- what holds of the ends that a process has
pub record AreLinks (l : EndsState) (puts : List Traffic) (takes : List Takings) (turn : ℕ) : Type 0 where
  pub own : l.own < l.n
  pub few : l.n ≤ MAX_PROCESSES
  pub network : IsNetwork l.n l.lines
  pub receivers : length puts ≡ l.n
  pub senders : length takes ≡ l.n
  pub putting : ArePuts l.lines l.own puts
  pub taking : AreTakes l.lines l.own takes
  pub in_turn : turn < l.n
