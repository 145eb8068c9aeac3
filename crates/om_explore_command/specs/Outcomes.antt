-- What runs without failures come to.
use Rattle.std.specs.Prelude.{◌≡◌, ℕ, List, string_bytes}
use Rattle.om_process.specs.declared.status.Status.{Status}
use Rattle.om_manager.specs.Outputs.{HeldOutput}
use Rattle.om_scripts.specs.Programs.{Cluster, programs_of}
use Rattle.om_world.specs.World.{WorldState}
use Rattle.om_world.specs.declared.entry.Entry.{Entry}
use Rattle.om_check.specs.Explored.{LeadTo}
use Rattle.om_check.specs.FailureFree.{IsStuckBy}
use Rattle.om_run_commands.specs.Run.{outputs_of}
use Rattle.om_run_commands.specs.RunText.{run_text}
use Rattle.om_explore_command.specs.declared.outcome.Outcome.{Outcome}

-- The text of the run without failures of these programs in which this was received and nothing is left to happen: each process has
-- ended, or waits and has received all that was sent to it.
pub record IsTextOf (cluster : Cluster) (live : List Entry) (text : List ℕ) : Type 0 where
  pub outputs : List (List HeldOutput)
  pub statuses : List Status
  pub run : IsStuckBy (programs_of cluster) live outputs statuses
  pub written : text ≡ run_text cluster outputs statuses

-- what that run comes to, and its events lead there
pub record IsOutcome (cluster : Cluster) (live : List Entry) (outcome : Outcome) : Type 0 where
  pub run : IsStuckBy (programs_of cluster) live (outputs_of outcome.report) outcome.report.statuses.items
  pub written : string_bytes outcome.text ≡ run_text cluster (outputs_of outcome.report) outcome.report.statuses.items
  pub world : WorldState
  pub led : LeadTo (programs_of cluster) outcome.events.items world
  pub received : world.live ≡ live
