-- What is read of a world in its end, and why a checked run is refused.
use Rattle.std.proofs.Common.{◌≡◌, ℕ, ◌≤◌, Option, None, Some, Result, Ok, Err, List, length, map, refl, sym, ap, subst, ◌∙◌}
use Rattle.std.specs.Prelude.{Vec, IfOk, slice_get}
use Rattle.std.specs.Option.{option_map}
use Rattle.std.specs.declared.alloc.Global.{Global}
use Rattle.std.proofs.lemmas.List.{length-map}
use Rattle.std.proofs.lemmas.Option.{slice_get-map}
use Rattle.om_report.specs.declared.report.Report.{Report}
use Rattle.om_check.specs.Whole.{AreReleasedIn, AreStatusesOf, IsWhole}
use Rattle.om_check.proofs.Ending.{whole_run}
use Rattle.om_check.proofs.OneRun.{one_run}
use Rattle.om_manager.specs.Outputs.{HeldOutput, held_of}
use Rattle.om_manager.specs.State.{ManagerState, process_count, released_by}
use Rattle.om_manager.specs.declared.output_log.Output.{Output}
use Rattle.om_interval.specs.declared.pid.TheConstants.{MAX_PROCESSES}
use Rattle.om_process.specs.Images.{program_of}
use Rattle.om_process.specs.declared.image.Image.{Image}
use Rattle.om_process.specs.declared.status.Status.{Status}
use Rattle.om_runner.specs.Released.{AreReleasedBy}
use Rattle.om_scripts.specs.Programs.{Cluster, program_at, programs_of}
use Rattle.om_world.specs.World.{WorldState}
use Rattle.om_world.specs.declared.entry.Entry.{Entry}
use Rattle.om_run_commands.specs.ClusterScript.{ClusterFile, cluster_file_line, no_settings}
use Rattle.om_commands.specs.Command.{IsScript}
use Rattle.om_run_commands.specs.Check.{IsFailureFreeIn, IsTextIn}
use Rattle.om_run_commands.specs.steps.Scripts.{IsErrorOfCheckedRun, IsErrorOfCheckedScript}
use Rattle.om_run_commands.specs.RunText.{TellsEnds, ends_text, run_text_in}
use Rattle.om_run_commands.specs.Run.{outputs_of}
use Rattle.om_run_commands.specs.steps.Lines.{released_text}
use Rattle.om_run_commands.specs.steps.Modes.{IsCheckedAnswer}
use Rattle.std.specs.Io.KnownBytes.{Appends}
use Rattle.om_commands.specs.declared.bytes_text.BytesForm.{BytesForm}
use Rattle.om_commands.specs.declared.error.CommandError.{CommandError}
use Rattle.om_commands.specs.declared.error.CommandError.TheVariants as errors
use Rattle.om_run_commands.proofs.RunLemmas.{of_script}

-- what was received determines the text
pub one_text : (form : BytesForm) (cluster : Cluster) (live : List Entry) (text other : List ℕ) → IsTextIn form cluster live text → IsTextIn form cluster live other
    → text ≡ other
one_text form cluster live text other a b =
    let same = one_run (programs_of cluster) live a.outputs b.outputs a.statuses b.statuses a.run b.run in
    a.written
    ∙ ap (λ os. run_text_in form cluster os a.statuses) same.0
    ∙ ap (λ ss. run_text_in form cluster b.outputs ss) same.1
    ∙ sym b.written

-- ---- the text of a world in its end
abbrev held : Vec Output Global → List HeldOutput
held os = map held_of os.items

element_of : {A B : Type 0} (f : A → B) (o : Option A) (y : B) → option_map f o ≡ Some y → (x : A) × (o ≡ Some x) × (f x ≡ y)
element_of f None y is = cc
element_of f (Some x) y is = (x, refl, cc)

outputs_are : (w : WorldState) (manager : ManagerState) (released : List (Vec Output Global)) → manager ≡ w.manager
    → AreReleasedBy manager released → AreReleasedIn w (map held released)
outputs_are w manager released same are p out at =
    let found = element_of held (slice_get released p) out (sym (slice_get-map held released p) ∙ at) in
    sym found.2 ∙ (are p found.0 found.1).0 ∙ ap (λ m. released_by m p) same

failure_free : (form : BytesForm) (cluster : Cluster) (w : WorldState) (manager : ManagerState) (released : List (Vec Output Global)) (statuses : List Status) (n : ℕ) (text : List ℕ)
    → IsWhole (programs_of cluster) w → manager ≡ w.manager → n ≡ length cluster.processes
    → AreReleasedBy manager released → length released ≡ process_count manager → length statuses ≡ n → AreStatusesOf w statuses
    → text ≡ run_text_in form cluster (map held released) statuses → IsFailureFreeIn form cluster text
failure_free form cluster w manager released statuses n text whole same many are long number stats written = (
  w.live,
  record {
    outputs = map held released;
    statuses = statuses;
    run = whole_run (programs_of cluster) w (map held released) statuses whole
        (length-map released held ∙ long ∙ ap process_count same ∙ whole.way.managed)
        (number ∙ many ∙ sym (length-map cluster.processes (λ e. program_at cluster e.1)))
        (outputs_are w manager released same are) stats;
    written = written;
  },
)

-- as it is read of a report
pub text_of_world : {A E : Type 0} (form : BytesForm) (spelled : A → List ℕ) (cluster : Cluster) (w : WorldState) (manager : ManagerState) (report : Report)
    (released : List (Vec Output Global)) (read statuses : List Status) (n : ℕ) (r : Result A E)
    → IsWhole (programs_of cluster) w → manager ≡ w.manager → n ≡ length cluster.processes
    → AreReleasedBy manager report.released.items → length report.released.items ≡ process_count manager
    → length statuses ≡ n → AreStatusesOf w statuses → report.statuses.items ≡ statuses
    → released ≡ report.released.items → read ≡ report.statuses.items
    → IfOk r (λ text. spelled text ≡ run_text_in form cluster (map (λ os. map held_of os.items) released) read)
    → IfOk r (λ text. IsFailureFreeIn form cluster (spelled text))
text_of_world form spelled cluster w manager report released read statuses n (Ok text) whole same many are long number stats kept same_released same_read written =
    failure_free form cluster w manager report.released.items statuses n (spelled text) whole same many are long number stats
    (written
    ∙ ap (λ os. run_text_in form cluster (map held os) read) same_released
    ∙ ap (λ ss. run_text_in form cluster (map held report.released.items) ss) (same_read ∙ kept))
text_of_world form spelled cluster w manager report released read statuses n (Err e) whole same many are long number stats kept same_released same_read written = tt

-- the images of processes are as few as these
pub few_images : (images now : List Image) (cluster : Cluster) (n : ℕ) → map program_of images ≡ programs_of cluster → now ≡ images
    → n ≡ length cluster.processes → n ≤ MAX_PROCESSES → length now ≤ MAX_PROCESSES
few_images images now cluster n programs same number few =
    subst (λ k. k ≤ MAX_PROCESSES)
    (number ∙ sym (length-map cluster.processes (λ e. program_at cluster e.1)) ∙ sym (ap length programs) ∙ length-map images program_of ∙ sym (ap length same))
    few

-- a text that is written answers its script, and says how its processes ended
pub checked_written : (form : BytesForm) (script : ClusterFile) (cluster : Cluster) (report : Report) (text read : List ℕ) (a b : Option (List ℕ))
    → cluster ≡ script.cluster → IsFailureFreeIn form cluster text → text ≡ run_text_in form cluster (outputs_of report) report.statuses.items
    → read ≡ text → Appends a b read
    → (text : List ℕ) × IsCheckedAnswer form report.statuses.items script text × Appends a b text
checked_written form script cluster report text read a b same free is same_read done = (
  text,
  (
    subst (λ c. IsFailureFreeIn form c text) same free,
    (
      released_text form script.cluster (outputs_of report),
      is ∙ ap (λ c. run_text_in form c (outputs_of report) report.statuses.items) same,
    ),
  ),
  subst (Appends a b) same_read done,
)

-- ---- the bytes that a script is read from
pub of_checked : (bytes : List ℕ) (script : ClusterFile) (error : CommandError) → IsScript cluster_file_line no_settings bytes script
    → IsErrorOfCheckedScript script error → IsErrorOfCheckedRun bytes error
of_checked bytes script errors.Unlike read some = record { script = script; is_script = read; some = some }
of_checked bytes script errors.NoSuchProcess read never = absurd never
of_checked bytes script errors.EmptyScript read told = of_script bytes script errors.EmptyScript read told
of_checked bytes script errors.NoMemory read told = of_script bytes script errors.NoMemory read told
of_checked bytes script errors.OutOfTurns read told = of_script bytes script errors.OutOfTurns read told
of_checked bytes script errors.GateShut read told = of_script bytes script errors.GateShut read told
of_checked bytes script errors.StoreFault read told = of_script bytes script errors.StoreFault read told
of_checked bytes script (errors.StoreInUse process) read told = of_script bytes script (errors.StoreInUse process) read told
of_checked bytes script (errors.AnotherCluster process) read told = of_script bytes script (errors.AnotherCluster process) read told
of_checked bytes script (errors.StoreMissing process) read told = of_script bytes script (errors.StoreMissing process) read told
of_checked bytes script errors.NoThread read told = of_script bytes script errors.NoThread read told
of_checked bytes script errors.TooLong read never = absurd never
of_checked bytes script errors.CannotRead read never = absurd never
of_checked bytes script errors.CannotWrite read told = tt
of_checked bytes script (errors.Script error) read never = absurd never
of_checked bytes script errors.NoCheckpoint read never = absurd never
of_checked bytes script (errors.Damaged y) read never = absurd never
of_checked bytes script (errors.MissingReceipt y) read never = absurd never
of_checked bytes script (errors.Mismatch y) read never = absurd never
