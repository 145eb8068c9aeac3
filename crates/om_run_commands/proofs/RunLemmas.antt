-- What is read of the report of a run, and why a run of a script is refused.
use Rattle.std.proofs.Common.{◌≡◌, ℕ, ◌<◌, ◌≤◌, None, Option, Result, Ok, Err, List, [], ◌++◌, length, get_or, map, refl, sym, ap, subst, ◌∙◌, arith}
use Rattle.std.specs.Prelude.{Vec, IfOk, OnOk, slice_index_or}
use Rattle.std.specs.List.{flat_map, range_with_len}
use Rattle.std.specs.Io.KnownBytes.{Appends}
use Rattle.std.specs.declared.alloc.Global.{Global}
use Rattle.std.proofs.lemmas.List.{get_or-map, length-map}
use Rattle.om_manager.specs.Outputs.{held_of}
use Rattle.om_manager.specs.declared.output_log.Output.{Output}
use Rattle.om_process.specs.Images.{program_of}
use Rattle.om_process.specs.Process.{Program}
use Rattle.om_process.specs.declared.image.Image.{Image}
use Rattle.om_process.specs.declared.status.Status.{Status}
use Rattle.om_scripts.specs.Programs.{Cluster, program_at, programs_of}
use Rattle.om_report.specs.Reports.{IsReport, IsWholeReport}
use Rattle.om_report.specs.declared.report.Report.{Report}
use Rattle.om_report.specs.declared.fault.RunFault.{RunFault}
use Rattle.om_report.specs.declared.fault.RunFault.TheVariants as running
use Rattle.om_run_commands.specs.steps.Errors.{error_of_run}
use Rattle.om_run_commands.specs.ClusterScript.{ClusterFile, cluster_file_line, no_settings}
use Rattle.om_commands.specs.Command.{IsScript}
use Rattle.om_run_commands.specs.Run.{IsErrorOfRun, IsRawAnswer, outputs_of}
use Rattle.om_run_commands.specs.RunText.{ends_text, raw_text, run_text_in}
use Rattle.om_run_commands.specs.steps.Lines.{released_text}
use Rattle.om_run_commands.specs.steps.Modes.{IsToldAnswer}
use Rattle.om_run_commands.specs.steps.Scripts.{IsErrorOfRawRun, IsErrorOfRawScript, IsErrorOfScript}
use Rattle.om_commands.specs.declared.bytes_text.BytesForm.{BytesForm}
use Rattle.om_commands.specs.declared.error.CommandError.{CommandError}
use Rattle.om_commands.specs.declared.error.CommandError.TheVariants as errors

-- the outputs of a process at its place
pub outputs-at : (released : List (Vec Output Global)) (p : ℕ) (outputs : Vec Output Global) (own : List Output) → p < length released
    → own ≡ outputs.items → outputs ≡ get_or released p outputs
    → map held_of own ≡ get_or (map (λ os. map held_of os.items) released) p []
outputs-at released p outputs own lt same there =
    ap (map held_of) same
    ∙ ap {A = Vec Output Global} (λ os. map held_of os.items) there
    ∙ sym (get_or-map (λ os. map held_of os.items) released p outputs [] lt)

-- what holds of an answer
pub ok_at : {A E : Type 0} (P : A → Type 0) (r : Result A E) (x : A) → r ≡ Ok x → IfOk r P → P x
ok_at P r x is holds = subst (λ answer. IfOk answer P) is holds

-- what a run of images answered is what one of their programs ends with
pub report_of_run : {E : Type 0} (over_clean : Type 0) (programs : List Program) (images : List Image) (r : Result Report E) (report : Report)
    → r ≡ Ok report → map program_of images ≡ programs
    → IfOk r (IsWholeReport over_clean (map program_of images)) → IsReport over_clean programs report
report_of_run over_clean programs images r report is same whole =
    let of_images = ok_at (IsWholeReport over_clean (map program_of images)) r report is whole in
    subst (λ ps. IsReport over_clean ps report) same of_images.is_report

-- so is the report that something else comes with
pub report_of_pair : {A E : Type 0} (over_clean : Type 0) (programs : List Program) (images : List Image) (r : Result (Report × A) E) (done : Report × A)
    → r ≡ Ok done → map program_of images ≡ programs
    → IfOk r (λ d. IsWholeReport over_clean (map program_of images) d.0) → IsReport over_clean programs done.0
report_of_pair {A} over_clean programs images r done is same whole =
    let of_images = ok_at (λ (d : Report × A). IsWholeReport over_clean (map program_of images) d.0) r done is whole in
    subst (λ ps. IsReport over_clean ps done.0) same of_images.is_report

-- the text of a report answers its script, and says how its processes ended
pub told_of_report : (form : BytesForm) (over_clean : Type 0) (script : ClusterFile) (report : Report) (r : Result (Vec Status Global) CommandError)
    (a b : Option (List ℕ)) → IsReport over_clean (programs_of script.cluster) report
    → OnOk r (Appends a b (run_text_in form script.cluster (outputs_of report) report.statuses.items)) → IfOk r (λ statuses. statuses ≡ report.statuses)
    → IfOk r (λ statuses. (text : List ℕ) × IsToldAnswer form over_clean statuses.items script text × Appends a b text)
told_of_report form over_clean script report (Ok statuses) a b is done same = (
  run_text_in form script.cluster (outputs_of report) report.statuses.items,
  (
    (report, is, refl),
    (
      released_text form script.cluster (outputs_of report),
      ap {A = Vec Status Global} (λ v. released_text form script.cluster (outputs_of report) ++ ends_text script.cluster v.items) (sym same),
    ),
  ),
  done,
)
told_of_report form over_clean script report (Err e) a b is done same = tt

-- the bytes that a process put out answer a script
pub raw_of_report : (name : List ℕ) (over_clean : Type 0) (script : ClusterFile) (cluster : Cluster) (report : Report) (released : List (Vec Output Global))
    (text read : List ℕ) (a b : Option (List ℕ)) → IsReport over_clean (programs_of script.cluster) report → cluster ≡ script.cluster
    → released ≡ report.released.items → text ≡ raw_text name cluster (map (λ os. map held_of os.items) released) → read ≡ text → Appends a b read
    → (text : List ℕ) × IsRawAnswer name over_clean report.statuses.items script text × Appends a b text
raw_of_report name over_clean script cluster report released text read a b is same same_released written same_read done = (
  text,
  record {
    report = report;
    is_report = is;
    ended = refl;
    is_text = written
        ∙ ap (λ c. raw_text name c (map (λ os. map held_of os.items) released)) same
        ∙ ap (λ os. raw_text name script.cluster (map (λ os. map held_of os.items) os)) same_released;
  },
  subst (Appends a b) same_read done,
)

-- as many as the programs are as many as the processes
pub as_many : (cluster : Cluster) (n : ℕ) → n ≡ length (programs_of cluster) → n ≡ length cluster.processes
as_many cluster n same = same ∙ length-map cluster.processes (λ e. program_at cluster e.1)

-- the error of a script is that of the bytes that it is read from
pub of_script : (bytes : List ℕ) (script : ClusterFile) (error : CommandError) → IsScript cluster_file_line no_settings bytes script
    → IsErrorOfScript script error → IsErrorOfRun bytes error
of_script bytes script errors.EmptyScript read lacks = (script, read, lacks)
of_script bytes script errors.NoMemory read told = tt
of_script bytes script errors.OutOfTurns read some = record { script = script; is_script = read; some = some }
of_script bytes script errors.GateShut read some = record { script = script; is_script = read; some = some }
of_script bytes script errors.StoreFault read some = record { script = script; is_script = read; some = some }
of_script bytes script (errors.StoreInUse process) read some = record { script = script; is_script = read; some = some }
of_script bytes script (errors.AnotherCluster process) read some = record { script = script; is_script = read; some = some }
of_script bytes script (errors.StoreMissing process) read some = record { script = script; is_script = read; some = some }
of_script bytes script errors.NoThread read some = record { script = script; is_script = read; some = some }
of_script bytes script errors.TooLong read never = absurd never
of_script bytes script errors.CannotRead read never = absurd never
of_script bytes script errors.CannotWrite read told = tt
of_script bytes script (errors.Script error) read never = absurd never
of_script bytes script errors.NoCheckpoint read never = absurd never
of_script bytes script (errors.Damaged y) read never = absurd never
of_script bytes script (errors.MissingReceipt y) read never = absurd never
of_script bytes script (errors.Mismatch y) read never = absurd never
of_script bytes script errors.Unlike read never = absurd never
of_script bytes script errors.NoSuchProcess read never = absurd never

-- so is one where there is no process of a name
pub of_raw : (name bytes : List ℕ) (script : ClusterFile) (error : CommandError) → IsScript cluster_file_line no_settings bytes script
    → IsErrorOfRawScript name script error → IsErrorOfRawRun name bytes error
of_raw name bytes script errors.NoSuchProcess read lacks = (script, read, lacks)
of_raw name bytes script errors.Unlike read told = of_script bytes script errors.Unlike read told
of_raw name bytes script errors.NoMemory read told = of_script bytes script errors.NoMemory read told
of_raw name bytes script errors.OutOfTurns read told = of_script bytes script errors.OutOfTurns read told
of_raw name bytes script errors.GateShut read told = of_script bytes script errors.GateShut read told
of_raw name bytes script errors.StoreFault read told = of_script bytes script errors.StoreFault read told
of_raw name bytes script errors.NoThread read told = of_script bytes script errors.NoThread read told
of_raw name bytes script errors.TooLong read told = of_script bytes script errors.TooLong read told
of_raw name bytes script errors.CannotRead read told = of_script bytes script errors.CannotRead read told
of_raw name bytes script errors.CannotWrite read told = of_script bytes script errors.CannotWrite read told
of_raw name bytes script errors.EmptyScript read told = of_script bytes script errors.EmptyScript read told
of_raw name bytes script errors.NoCheckpoint read told = of_script bytes script errors.NoCheckpoint read told
of_raw name bytes script (errors.StoreInUse process) read told = of_script bytes script (errors.StoreInUse process) read told
of_raw name bytes script (errors.AnotherCluster process) read told = of_script bytes script (errors.AnotherCluster process) read told
of_raw name bytes script (errors.StoreMissing process) read told = of_script bytes script (errors.StoreMissing process) read told
of_raw name bytes script (errors.Script error) read told = of_script bytes script (errors.Script error) read told
of_raw name bytes script (errors.Damaged y) read told = of_script bytes script (errors.Damaged y) read told
of_raw name bytes script (errors.MissingReceipt y) read told = of_script bytes script (errors.MissingReceipt y) read told
of_raw name bytes script (errors.Mismatch y) read told = of_script bytes script (errors.Mismatch y) read told

-- the fault of a run is an error of its script
pub error_of_fault : (script : ClusterFile) (fault : RunFault) → 1 ≤ length script.cluster.processes
    → IsErrorOfScript script (error_of_run fault)
error_of_fault script (running.Turns p) some = some
error_of_fault script (running.GateShut p) some = some
error_of_fault script running.Memory some = tt
error_of_fault script (running.Fault p) some = some
error_of_fault script (running.Load p) some = some
error_of_fault script (running.StoreInUse p) some = some
error_of_fault script (running.AnotherCluster p) some = some
error_of_fault script (running.StoreMissing p) some = some
error_of_fault script running.NoThread some = some
