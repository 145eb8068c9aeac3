-- What holds of what has been read.
use Rattle.std.specs.Prelude.{◌<◌, ◌≤◌, All, length}
use Rattle.om_interval.specs.declared.pid.TheConstants.{MAX_PROCESSES}
use Rattle.om_scripts.specs.Programs.{Cluster, IsProgram}

-- what holds of what has been read, whatever the lines were
pub record IsCluster (c : Cluster) : Type 0 where
  pub programs : All (λ e. IsProgram e.1) c.programs
  pub places : All (λ e. e.1 < length c.programs) c.processes
  pub few : length c.processes ≤ MAX_PROCESSES
