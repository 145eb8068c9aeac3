-- The errors of a script that was read, before it is known of which bytes.
use Rattle.std.specs.Prelude.{◌≡◌, ℕ, ◌≤◌, List, None, length}
use Rattle.om_scripts.specs.Named.{place_of}
use Rattle.om_scripts.specs.Programs.{Cluster}
use Rattle.om_commands.specs.declared.error.CommandError.{CommandError}
use Rattle.om_commands.specs.declared.error.CommandError.TheVariants as errors
use Rattle.om_run_commands.specs.ClusterScript.{ClusterFile}
use Rattle.om_run_commands.specs.Run.{IsClusterFile, IsErrorOfRun, LacksProcess}

-- The error of a script of this cluster that was read, or its writer's: a script without a process is told, and so is it where a run
-- comes to no end. Nothing else of the script is.
abbrev pub IsErrorOfCluster : Cluster → CommandError → Type 0
IsErrorOfCluster cluster errors.CannotWrite = Unit {0}
IsErrorOfCluster cluster errors.EmptyScript = length cluster.processes ≡ 0
IsErrorOfCluster cluster errors.NoMemory = Unit {0}
IsErrorOfCluster cluster errors.OutOfTurns = 1 ≤ length cluster.processes
IsErrorOfCluster cluster errors.GateShut = 1 ≤ length cluster.processes
IsErrorOfCluster cluster errors.StoreFault = 1 ≤ length cluster.processes
IsErrorOfCluster cluster (errors.StoreInUse process) = 1 ≤ length cluster.processes
IsErrorOfCluster cluster (errors.AnotherCluster process) = 1 ≤ length cluster.processes
IsErrorOfCluster cluster (errors.StoreMissing process) = 1 ≤ length cluster.processes
IsErrorOfCluster cluster errors.NoThread = 1 ≤ length cluster.processes
IsErrorOfCluster cluster _ = ⊥

-- the errors are those of a run, and that it is unlike its check
abbrev pub IsErrorOfCheckedCluster : Cluster → CommandError → Type 0
IsErrorOfCheckedCluster cluster errors.Unlike = 1 ≤ length cluster.processes
IsErrorOfCheckedCluster cluster error = IsErrorOfCluster cluster error

-- the errors are those of a run, and that there is no process of the name
abbrev pub IsErrorOfRawCluster : List ℕ → Cluster → CommandError → Type 0
IsErrorOfRawCluster name cluster errors.NoSuchProcess = place_of name cluster.processes ≡ None
IsErrorOfRawCluster name cluster error = IsErrorOfCluster cluster error

-- the errors are those of a run of the cluster of a script
abbrev pub IsErrorOfScript : ClusterFile → CommandError → Type 0
IsErrorOfScript script error = IsErrorOfCluster script.cluster error

abbrev pub IsErrorOfCheckedScript : ClusterFile → CommandError → Type 0
IsErrorOfCheckedScript script error = IsErrorOfCheckedCluster script.cluster error

abbrev pub IsErrorOfRawScript : List ℕ → ClusterFile → CommandError → Type 0
IsErrorOfRawScript name script error = IsErrorOfRawCluster name script.cluster error

-- the same by the bytes of the script: the errors are those of a run, and that it is unlike its check
abbrev pub IsErrorOfCheckedRun : List ℕ → CommandError → Type 0
IsErrorOfCheckedRun bytes errors.Unlike = IsClusterFile bytes
IsErrorOfCheckedRun bytes error = IsErrorOfRun bytes error

-- and that there is no process of the name
abbrev pub IsErrorOfRawRun : List ℕ → List ℕ → CommandError → Type 0
IsErrorOfRawRun name bytes errors.NoSuchProcess = LacksProcess name bytes
IsErrorOfRawRun name bytes error = IsErrorOfRun bytes error
