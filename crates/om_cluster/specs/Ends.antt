-- What a worker brings back.
use Rattle.std.specs.Prelude.{◌≡◌, ℕ, ◌≤◌, Bool, IfErr, IfOk, IsTrue, Result, length, List, Some, slice_get}
use Rattle.om_process.specs.Process.{Program}
use Rattle.om_node.specs.Ends.{IsWholeRun}
use Rattle.om_process.specs.Core.{IsEnd}
use Rattle.om_cluster.specs.declared.config.Config.{Config}
use Rattle.om_report.specs.declared.fault.RunFault.{RunFault}
use Rattle.om_cluster.specs.declared.finished.Finished.{Finished}
use Rattle.om_links.specs.Network.{Lines}
use Rattle.om_links.specs.Wiring.{HasEnds}
use Rattle.om_report.specs.Faults.{IsFaultBy}
use Rattle.om_interval.specs.declared.pid.TheConstants.{MAX_PROCESSES}
use Rattle.om_process.specs.Images.{program_of}
use Rattle.om_process.specs.declared.image.Image.{Image}

-- how a process ended, with its outputs, its store and its passes: over a clean store the outputs are all that it had made
pub record IsEndOf {K S : Type 0} (is_clean : S → Bool) (program : Program) (lines : Lines) (own n : ℕ) (f : Finished K S) : Type 0 where
  pub ended : IsEnd f.status
  pub own_is : f.harvest.own ≡ own
  pub whole : IsTrue (is_clean f.store) → IsWholeRun program own n f.status (length f.harvest.outputs.items)
  pub ends : HasEnds n lines own f.ends

-- there are no more images than processes that there can be
abbrev pub FitsCluster : Config → Type 0
FitsCluster config = length config.images.items ≤ MAX_PROCESSES

-- the program of the process is that of the image
abbrev pub IsProgramOf : List Program → ℕ → Image → Type 0
IsProgramOf programs own image = slice_get programs own ≡ Some (program_of image)

-- the run gave its workers turns, and let them ask the gate
pub record IsGiven (config : Config) : Type 0 where
  pub turns : 1 ≤ config.turns
  pub gate : 1 ≤ config.gate_turns

-- the worker of a process ended well, and then the run gave it turns; or with a fault of its own
pub record IsOwnEnd {F : Type 0} (config : Config) (own : ℕ) (result : Result F RunFault) : Type 0 where
  pub given : IfOk result (λ f. IsGiven config)
  pub fault : IfErr result (IsFaultBy own)
