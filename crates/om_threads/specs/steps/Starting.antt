-- What a cluster is whose workers are started.
use Rattle.std.specs.Prelude.{◌≡◌, ◌≤◌, ℕ, Bool, List, length, map}
use Rattle.om_interval.specs.declared.pid.TheConstants.{MAX_PROCESSES}
use Rattle.om_process.specs.Images.{program_of}
use Rattle.om_process.specs.Process.{Program}
use Rattle.om_process.specs.declared.image.Image.{Image}
use Rattle.om_node.specs.Nodes.{AreAlwaysClean}
use Rattle.om_links.specs.Network.{Lines}
use Rattle.om_links.specs.Wiring.{IsWired}
use Rattle.om_links.specs.declared.network.Ends.{Ends}

-- what a cluster is named for is so of it: it has n processes, they run these programs, and their stores are clean where that is said
pub record IsNamedFor {S : Type 0} (is_clean : S → Bool) (over_clean : Type 0) (programs : List Program) (n : ℕ) (images : List Image) : Type 0 where
  pub many : length images ≡ n
  pub run : programs ≡ map program_of images
  pub clean : over_clean → AreAlwaysClean is_clean

-- the workers of n processes can be started: there are not too many, their inboxes are wired, and there is a pass for each
pub record CanStart (n : ℕ) (lines : Lines) (ends : List Ends) (passes : ℕ) : Type 0 where
  pub few : n ≤ MAX_PROCESSES
  pub wired : IsWired n lines ends
  pub each : passes ≡ n
