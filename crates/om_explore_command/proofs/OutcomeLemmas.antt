-- What is read of a world in which nothing is left to happen.
use Rattle.std.proofs.Common.{◌≡◌, ◌⊎◌, inl, inr, ℕ, ◌<◌, Option, None, Some, List, length, map, string_bytes, refl, sym, ap, subst, ◌∙◌}
use Rattle.std.specs.Prelude.{Vec, slice_get}
use Rattle.std.specs.Option.{option_map}
use Rattle.std.specs.declared.alloc.Global.{Global}
use Rattle.std.proofs.lemmas.List.{length-map}
use Rattle.std.proofs.lemmas.Option.{slice_get-map}
use Rattle.om_manager.specs.Outputs.{HeldOutput, held_of}
use Rattle.om_manager.specs.State.{ManagerState, process_count, released_by}
use Rattle.om_manager.specs.declared.output_log.Output.{Output}
use Rattle.om_process.specs.Process.{Program}
use Rattle.om_process.specs.declared.status.Status.{Status}
use Rattle.om_runner.specs.Released.{AreReleasedBy}
use Rattle.om_report.specs.declared.report.Report.{Report}
use Rattle.om_scripts.specs.Programs.{Cluster, program_at, programs_of}
use Rattle.om_world.specs.World.{WorldState}
use Rattle.om_check.specs.Explored.{EndsIn, IsExplored, LeadTo}
use Rattle.om_check.specs.Whole.{AreReleasedIn, AreStatusesOf, IsDone, IsStarved, IsStuck}
use Rattle.om_check.specs.declared.exploring.End.{End}
use Rattle.om_check.specs.declared.exploring.End.TheVariants.{Whole, Stuck}
use Rattle.om_check.specs.declared.exploring.Explored.{Explored}
use Rattle.om_check.proofs.Stuck.{stuck_run}
use Rattle.om_run_commands.specs.Run.{outputs_of}
use Rattle.om_run_commands.specs.RunText.{run_text}
use Rattle.om_explore_command.specs.Outcomes.{IsOutcome}
use Rattle.om_explore_command.specs.declared.outcome.Outcome.{Outcome}
use Rattle.om_explore_command.specs.steps.{HasCore, held}

-- in each of its ends nothing is left to happen
pub stuck_in : (programs : List Program) (w : WorldState) (end : End) → EndsIn programs w end → IsStuck programs w
stuck_in programs w Whole ends = record { way = ends.way; each = λ p low. inl (ends.done p low) }
stuck_in programs w Stuck ends = ends

core_in : (w : WorldState) (p : ℕ) → IsDone w p ⊎ IsStarved w p → HasCore w p
core_in w p (inl done) = (done.0, done.1)
core_in w p (inr starved) = (starved.0, starved.1)

-- each process has a core
pub cores_in : (cluster : Cluster) (w : WorldState) (end : End) (n : ℕ) → EndsIn (programs_of cluster) w end → n ≡ length cluster.processes
    → (p : ℕ) → p < n → HasCore w p
cores_in cluster w end n ends number p low =
    core_in w p
    ((stuck_in (programs_of cluster) w end ends).each p
    (subst (λ k. p < k) (number ∙ sym (length-map cluster.processes (λ e. program_at cluster e.1))) low))

-- ---- what is released
element_of : {A B : Type 0} (f : A → B) (o : Option A) (y : B) → option_map f o ≡ Some y → (x : A) × (o ≡ Some x) × (f x ≡ y)
element_of f None y is = cc
element_of f (Some x) y is = (x, refl, cc)

released_in : (w : WorldState) (manager : ManagerState) (released : List (Vec Output Global)) → manager ≡ w.manager
    → AreReleasedBy manager released → AreReleasedIn w (held released)
released_in w manager released same are p out at =
    let found = element_of (λ (os : Vec Output Global). map held_of os.items) (slice_get released p) out
    (sym (slice_get-map (λ (os : Vec Output Global). map held_of os.items) released p) ∙ at) in
    sym found.2 ∙ (are p found.0 found.1).0 ∙ ap (λ m. released_by m p) same

-- what a run comes to, as it is read of its world
pub outcome_is : (cluster : Cluster) (run : Explored) (manager : ManagerState) (outcome : Outcome) (n : ℕ)
    → IsExplored (programs_of cluster) run → manager ≡ run.world.manager → n ≡ length cluster.processes
    → AreReleasedBy manager outcome.report.released.items → length outcome.report.released.items ≡ process_count manager
    → length outcome.report.statuses.items ≡ n → AreStatusesOf run.world outcome.report.statuses.items
    → outcome.events.items ≡ run.events.items
    → string_bytes outcome.text ≡ run_text cluster (outputs_of outcome.report) outcome.report.statuses.items
    → IsOutcome cluster run.world.live outcome
outcome_is cluster run manager outcome n explored same number are long many stats events written =
    let stuck = stuck_in (programs_of cluster) run.world run.end explored.ends in
    record {
      run = stuck_run (programs_of cluster) run.world (outputs_of outcome.report) outcome.report.statuses.items stuck
          (length-map outcome.report.released.items (λ (os : Vec Output Global). map held_of os.items) ∙ long ∙ ap process_count same ∙ stuck.way.managed)
          (many ∙ number ∙ sym (length-map cluster.processes (λ e. program_at cluster e.1)))
          (released_in run.world manager outcome.report.released.items same are) stats;
      written = written;
      world = run.world;
      led = subst (λ happened. LeadTo (programs_of cluster) happened run.world) (sym events) explored.led;
      received = refl;
    }
