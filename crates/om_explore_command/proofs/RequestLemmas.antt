-- What an exploration answers and is refused with, by the script that was read, and by the bytes that it was read from.
use Rattle.std.proofs.Common.{◌≡◌, ◌⊎◌, inl, inr, ℕ, ◌≤◌, Bool, Option, None, Some, Result, Ok, Err, List, [], length, map, sym, ap, subst, ◌∙◌}
use Rattle.std.specs.Prelude.{All, IfErr, IfSome, OnOk, Vec, slice_index_or}
use Rattle.std.specs.Io.KnownBytes.{Appends}
use Rattle.std.specs.declared.alloc.Global.{Global}
use Rattle.std.proofs.lemmas.List.{length-map}
use Rattle.om_manager.specs.Outputs.{held_of}
use Rattle.om_manager.specs.declared.output_log.Output.{Output}
use Rattle.om_scripts.specs.Programs.{Cluster, program_at}
use Rattle.om_commands.specs.Command.{IsScript}
use Rattle.om_commands.specs.declared.bytes_text.BytesForm.{BytesForm}
use Rattle.om_commands.specs.declared.error.CommandError.{CommandError}
use Rattle.om_commands.specs.declared.error.CommandError.TheVariants.{CannotWrite, NoMemory, OutOfTurns}
use Rattle.om_run_commands.specs.ClusterScript.{ClusterFile, cluster_file_line, no_settings}
use Rattle.om_run_commands.specs.Run.{IsErrorOfRun}
use Rattle.om_run_commands.specs.steps.Scripts.{IsErrorOfScript}
use Rattle.om_run_commands.proofs.RunLemmas.{of_script}
use Rattle.om_explore_command.specs.Explorations.{IsExploration}
use Rattle.om_explore_command.specs.ExplorationText.{IsExplorationText}
use Rattle.om_explore_command.specs.Outcomes.{IsOutcome}
use Rattle.om_explore_command.specs.Request.{IsExploreAnswer, IsExploredFile}
use Rattle.om_explore_command.specs.declared.exploration.Exploration.{Exploration}
use Rattle.om_explore_command.specs.declared.tally.Found.{Found}
use Rattle.om_explore_command.specs.steps.{OfCluster}

-- ---- answers
pub explore_answer : (form : BytesForm) (is_asked : Bool) (script : ClusterFile) (one two : Cluster) (exploration : Exploration) (text : List ℕ) → one ≡ script.cluster
    → two ≡ script.cluster → IsExploration one exploration → IsExplorationText form two is_asked exploration text → IsExploreAnswer form is_asked script text
explore_answer form is_asked script one two exploration text same_one same_two is written = (
  exploration,
  subst (λ cluster. IsExploration cluster exploration) same_one is,
  subst (λ cluster. IsExplorationText form cluster is_asked exploration text) same_two written,
)

pub text_of_answer : {A : Type 0} (form : BytesForm) (is_asked : Bool) (remaining : Option (List ℕ)) (start script : ClusterFile) (r : Result A CommandError)
    (a b : Option (List ℕ)) → start ≡ no_settings → IfSome remaining (λ bytes. IsScript cluster_file_line start bytes script)
    → OnOk r ((text : List ℕ) × IsExploreAnswer form is_asked script text × Appends a b text)
    → IfSome remaining (λ bytes. OnOk r ((text : List ℕ) × IsExploredFile form is_asked bytes text × Appends a b text))
text_of_answer form is_asked None start script r a b is read answer = tt
text_of_answer form is_asked (Some bytes) start script (Ok x) a b is read answer = (
  answer.0,
  record { script = script; is_script = subst (λ s. IsScript cluster_file_line s bytes script) is read; answer = answer.1 },
  answer.2,
)
text_of_answer form is_asked (Some bytes) start script (Err e) a b is read answer = tt

-- ---- errors
pub error_of_answer : {A : Type 0} (remaining : Option (List ℕ)) (start script : ClusterFile) (r : Result A CommandError) → start ≡ no_settings
    → IfSome remaining (λ bytes. IsScript cluster_file_line start bytes script) → IfErr r (IsErrorOfScript script)
    → IfSome remaining (λ bytes. IfErr r (IsErrorOfRun bytes))
error_of_answer None start script r is read error = tt
error_of_answer (Some bytes) start script (Ok x) is read error = tt
error_of_answer (Some bytes) start script (Err e) is read error =
    of_script bytes script e (subst (λ s. IsScript cluster_file_line s bytes script) is read) error

pub error_of_exploration : (script : ClusterFile) (error : CommandError) → 1 ≤ length script.cluster.processes
    → (error ≡ OutOfTurns) ⊎ (error ≡ NoMemory) → IsErrorOfScript script error
error_of_exploration script error some (inl is) = subst (IsErrorOfScript script) (sym is) some
error_of_exploration script error some (inr is) = subst (IsErrorOfScript script) (sym is) tt

pub error_of_witness : (script : ClusterFile) (error : CommandError) → (error ≡ CannotWrite) ⊎ (error ≡ NoMemory) → IsErrorOfScript script error
error_of_witness script error (inl is) = subst (IsErrorOfScript script) (sym is) tt
error_of_witness script error (inr is) = subst (IsErrorOfScript script) (sym is) tt

-- ---- each report is of the cluster's processes
report_of : (cluster : Cluster) (live : _) (found : Found) → IsOutcome cluster live found.outcome → OfCluster (length cluster.processes) found
report_of cluster live found is = record {
  released = sym (length-map found.outcome.report.released.items (λ (outputs : Vec Output Global). map held_of outputs.items)) ∙ is.run.rest.processes
      ∙ length-map cluster.processes (λ e. program_at cluster e.1);
  statuses = is.run.rest.stands ∙ length-map cluster.processes (λ e. program_at cluster e.1);
}

pub reports_of : (cluster one two : Cluster) (exploration : Exploration) → one ≡ cluster → two ≡ cluster → IsExploration one exploration
    → All (OfCluster (length two.processes)) exploration.found.items
reports_of cluster one two exploration same_one same_two is =
    subst (λ other. All (OfCluster (length other.processes)) exploration.found.items) (same_one ∙ sym same_two)
    (λ k d low.
    let found = slice_index_or exploration.found.items k d in
    let of = is.tally.outcomes k d low in
    report_of one of.0 found of.2)
