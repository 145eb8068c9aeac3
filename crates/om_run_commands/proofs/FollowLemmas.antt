-- What is written of a run that is followed.
use Rattle.std.proofs.Common.{◌≡◌, ◌≢◌, ◌⊎◌, inl, inr, ℕ, ◌≤◌, Option, None, Some, Result, Ok, Err, List, [], ◌∷◌, ◌++◌, length, map, refl, sym, ap, subst, ◌∙◌, append-nil}
use Rattle.std.specs.Prelude.{IfErr, IfOk}
use Rattle.std.specs.Io.KnownBytes.{Appends, Keeps}
use Rattle.std.proofs.lemmas.Grind.{flat_map-append}
use Rattle.std.proofs.lemmas.List.{length-map}
use Rattle.std.proofs.KnownBytes.{Appends-trans, Keeps-refl}
use Rattle.om_process.specs.Images.{program_of}
use Rattle.om_process.specs.declared.image.Image.{Image}
use Rattle.om_process.specs.declared.status.Status.{Status}
use Rattle.om_scripts.specs.Programs.{Cluster, programs_of}
use Rattle.om_report.specs.declared.report.FollowedReport.{FollowedReport}
use Rattle.om_report.specs.Reports.{IsToldReport}
use Rattle.om_runner.specs.Telling.{AreInOrder, AreToldMade, Told}
use Rattle.om_following.specs.declared.follower.FollowFault.{FollowFault}
use Rattle.om_following.specs.declared.follower.FollowFault.TheVariants.{Run, Unwanted}
use Rattle.om_report.specs.declared.fault.RunFault.{RunFault}
use Rattle.om_report.specs.declared.fault.RunFault.TheVariants as running
use Rattle.om_run_commands.proofs.RunLemmas.{ok_at}
use Rattle.om_run_commands.specs.ClusterScript.{ClusterFile, cluster_file_line, no_settings}
use Rattle.om_commands.specs.Command.{IsErrorOf, IsScript}
use Rattle.om_run_commands.specs.steps.Errors.{error_of_run}
use Rattle.om_run_commands.specs.Follow.{IsPartOf, told_text}
use Rattle.om_run_commands.specs.steps.Modes.{IsFollowedTo}
use Rattle.om_run_commands.specs.steps.Lines.{told_line}
use Rattle.om_run_commands.specs.Run.{IsByKind}
use Rattle.om_run_commands.specs.steps.Scripts.{IsErrorOfScript}
use Rattle.om_run_commands.specs.RunText.{ends_text}
use Rattle.om_commands.specs.declared.bytes_text.BytesForm.{BytesForm}
use Rattle.om_commands.specs.declared.error.CommandError.{CommandError}
use Rattle.om_commands.specs.declared.error.CommandError.TheVariants as errors

-- one line more was written
pub line_more : (form : BytesForm) (cluster : Cluster) (a b c : Option (List ℕ)) (told : List Told) (t : Told) (line : List ℕ) → Appends a b (told_text form cluster told) → Appends b c line
    → line ≡ told_line form cluster t → Appends a c (told_text form cluster (told ++ t ∷ []))
line_more form cluster a b c told t line before more is =
    let text : told_text form cluster (told ++ t ∷ []) ≡ told_text form cluster told ++ told_line form cluster t =
    flat_map-append (told_line form cluster) told (t ∷ []) ∙ ap (λ l. told_text form cluster told ++ l) (append-nil (told_line form cluster t))
    in subst (Appends a c) (sym text) (Appends-trans a b c _ _ before (subst (Appends b c) is more))

-- a script is answered by the lines of what its run told, and then by how it ended
pub text_of_report : {E : Type 0} (form : BytesForm) (over_clean : Type 0) (script : ClusterFile) (cluster : Cluster) (images : List Image) (r : Result FollowedReport E) (report : FollowedReport)
    (statuses : List Status) (a b c : Option (List ℕ)) (same_after : Type 0)
    → r ≡ Ok report → cluster ≡ script.cluster → map program_of images ≡ programs_of script.cluster
    → IfOk r (λ report. (told : List Told) × (same_after × Appends a b (told_text form cluster told))
    × IsToldReport over_clean (map program_of images) report.statuses.items report.front told)
    → statuses ≡ report.statuses.items → Appends b c (ends_text cluster statuses)
    → (text : List ℕ) × IsFollowedTo form over_clean report.statuses.items script text × Appends a c text
text_of_report form over_clean script cluster images r report statuses a b c same_after is same programs told same_statuses ends =
    let all = ok_at (λ report. (told : List Told) × (same_after × Appends a b (told_text form cluster told)) × IsToldReport over_clean (map program_of images) report.statuses.items report.front told) r report is told in
    let lines : Appends a b (told_text form script.cluster all.0) = subst (λ k. Appends a b (told_text form k all.0)) same all.1.1 in
    let last : Appends b c (ends_text script.cluster report.statuses.items) =
    subst (λ ss. Appends b c (ends_text script.cluster ss)) same_statuses (subst (λ k. Appends b c (ends_text k statuses)) same ends) in (
      told_text form script.cluster all.0 ++ ends_text script.cluster report.statuses.items,
      (
        record {
          statuses = report.statuses.items;
          front = report.front;
          told = all.0;
          is_told = subst (λ ps. IsToldReport over_clean ps report.statuses.items report.front all.0) programs all.2;
          is_text = refl;
        },
        (told_text form script.cluster all.0, refl),
      ),
      Appends-trans a b c _ _ lines last,
    )

-- of a run that comes to no end a part is written
pub partly_run : (fault : RunFault) (part none : Type 0) → part → IsByKind (error_of_run fault) part none
partly_run (running.Turns p) part none is = is
partly_run (running.GateShut p) part none is = is
partly_run running.Memory part none is = tt
partly_run (running.Fault p) part none is = is
partly_run (running.Load p) part none is = is
partly_run (running.StoreInUse p) part none is = is
partly_run (running.AnotherCluster p) part none is = is
partly_run (running.StoreMissing p) part none is = is
partly_run running.NoThread part none is = is

-- of the other two errors no more is known
pub partly_refused : (error : CommandError) (part none : Type 0) → (error ≡ errors.NoMemory) ⊎ (error ≡ errors.CannotWrite) → IsByKind error part none
partly_refused error part none (inl is) = subst (λ e. IsByKind e part none) (sym is) tt
partly_refused error part none (inr is) = subst (λ e. IsByKind e part none) (sym is) tt

pub partly_of_fault : (fault : FollowFault) (error : CommandError) (part none : Type 0) → (fault ≡ Unwanted → (error ≡ errors.NoMemory) ⊎ (error ≡ errors.CannotWrite))
    → ((f : RunFault) → fault ≡ Run f → error ≡ error_of_run f) → (fault ≢ Unwanted → part) → IsByKind error part none
partly_of_fault Unwanted error part none unwanted run is = partly_refused error part none (unwanted refl)
partly_of_fault (Run f) error part none unwanted run is = subst (λ e. IsByKind e part none) (sym (run f refl)) (partly_run f part none (is (λ same. cc)))

-- what was told of a cluster's run is a part of the answer to its script
pub part_told : (form : BytesForm) (over_clean : Type 0) (script : ClusterFile) (cluster : Cluster) (images : List Image) (same_after : Type 0) (a b : Option (List ℕ)) → cluster ≡ script.cluster
    → map program_of images ≡ programs_of script.cluster
    → (told : List Told) × (same_after × Appends a b (told_text form cluster told)) × AreInOrder told × (over_clean → AreToldMade (map program_of images) (length images) told)
    → IsPartOf (told_text form script.cluster) over_clean script a b
part_told form over_clean script cluster images same_after a b same programs is = (
  is.0,
  is.2,
  λ clean. subst (λ ps. AreToldMade ps (length ps) is.0) programs (subst (λ n. AreToldMade (map program_of images) n is.0) (sym (length-map images program_of)) (is.3 clean)),
  subst (λ c. Appends a b (told_text form c is.0)) same is.1.1,
)

-- of a run that comes to no end what was told is written
pub part_of_run : (form : BytesForm) (over_clean : Type 0) (script : ClusterFile) (cluster : Cluster) (images : List Image) (r : Result FollowedReport FollowFault) (fault : FollowFault)
    (error : CommandError) (same_after : Type 0) (a b : Option (List ℕ)) (none : Type 0)
    → r ≡ Err fault → cluster ≡ script.cluster → map program_of images ≡ programs_of script.cluster
    → (fault ≡ Unwanted → (error ≡ errors.NoMemory) ⊎ (error ≡ errors.CannotWrite)) → ((f : RunFault) → fault ≡ Run f → error ≡ error_of_run f)
    → IfErr r (λ fault. fault ≢ Unwanted → (told : List Told) × (same_after × Appends a b (told_text form cluster told)) × AreInOrder told
    × (over_clean → AreToldMade (map program_of images) (length images) told))
    → IsByKind error (IsPartOf (told_text form script.cluster) over_clean script a b) none
part_of_run form over_clean script cluster images r fault error same_after a b none is same programs unwanted run partly =
    let told = subst (λ x. IfErr x (λ fault. fault ≢ Unwanted → (told : List Told) × (same_after × Appends a b (told_text form cluster told)) × AreInOrder told
    × (over_clean → AreToldMade (map program_of images) (length images) told))) is partly in
    partly_of_fault fault error (IsPartOf (told_text form script.cluster) over_clean script a b) none unwanted run
    (λ wanted. part_told form over_clean script cluster images same_after a b same programs (told wanted))

-- the other two errors may come of any script
pub refused_is_error : (script : ClusterFile) (error : CommandError) → (error ≡ errors.NoMemory) ⊎ (error ≡ errors.CannotWrite) → IsErrorOfScript script error
refused_is_error script error (inl is) = subst (IsErrorOfScript script) (sym is) tt
refused_is_error script error (inr is) = subst (IsErrorOfScript script) (sym is) tt

-- nothing is written where the script could not be read
pub partly_unread : (bytes : List ℕ) (error : CommandError) (part none : Type 0) → IsErrorOf cluster_file_line no_settings (λ _. ⊥) bytes error → none → IsByKind error part none
partly_unread bytes errors.CannotWrite part none is kept = tt
partly_unread bytes errors.NoMemory part none is kept = tt
partly_unread bytes errors.OutOfTurns part none never kept = absurd never
partly_unread bytes errors.GateShut part none never kept = absurd never
partly_unread bytes errors.StoreFault part none never kept = absurd never
partly_unread bytes (errors.StoreInUse process) part none never kept = absurd never
partly_unread bytes (errors.AnotherCluster process) part none never kept = absurd never
partly_unread bytes (errors.StoreMissing process) part none never kept = absurd never
partly_unread bytes errors.NoThread part none never kept = absurd never
partly_unread bytes errors.TooLong part none is kept = kept
partly_unread bytes errors.CannotRead part none is kept = kept
partly_unread bytes errors.EmptyScript part none is kept = kept
partly_unread bytes (errors.Script error) part none is kept = kept
partly_unread bytes errors.NoCheckpoint part none is kept = kept
partly_unread bytes (errors.Damaged y) part none is kept = kept
partly_unread bytes (errors.MissingReceipt y) part none is kept = kept
partly_unread bytes (errors.Mismatch y) part none is kept = kept
partly_unread bytes errors.Unlike part none is kept = kept
partly_unread bytes errors.NoSuchProcess part none is kept = kept
