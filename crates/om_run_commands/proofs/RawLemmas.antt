-- What is written of a run of which the bytes of one process are followed.
use Rattle.std.proofs.Common.{◌≡◌, ◌≢◌, ◌⊎◌, ℕ, zero, suc, ◌≤◌, ◌==◌, Option, None, Some, Result, Ok, Err, List, [], ◌∷◌, ◌++◌, cond, false, get_or, length, map, refl, sym, ap, subst, ◌∙◌, arith, append-nil}
use Rattle.std.specs.Prelude.{IfErr, IfOk}
use Rattle.std.specs.List.{flat_map}
use Rattle.std.specs.Io.KnownBytes.{Appends, Keeps}
use Rattle.std.proofs.KnownBytes.{Appends-trans}
use Rattle.std.proofs.lemmas.Bool.{eq-eqb}
use Rattle.std.proofs.lemmas.Bool.Decides.{nat_tests}
use Rattle.std.proofs.lemmas.Grind.{flat_map-append}
use Rattle.std.proofs.lemmas.List.{length-map}
use Rattle.std.proofs.lemmas.List.Elements.{filter-append}
use Rattle.om_process.specs.Images.{program_of}
use Rattle.om_process.specs.declared.image.Image.{Image}
use Rattle.om_process.specs.declared.status.Status.{Status}
use Rattle.om_scripts.specs.Named.{place_of}
use Rattle.om_scripts.specs.Programs.{programs_of}
use Rattle.om_report.specs.declared.report.FollowedReport.{FollowedReport}
use Rattle.om_report.specs.Reports.{IsToldReport}
use Rattle.om_runner.specs.Telling.{AreInOrder, AreToldMade, Told, of_process}
use Rattle.om_following.specs.declared.follower.FollowFault.{FollowFault}
use Rattle.om_following.specs.declared.follower.FollowFault.TheVariants.{Run, Unwanted}
use Rattle.om_report.specs.declared.fault.RunFault.{RunFault}
use Rattle.om_commands.specs.declared.error.CommandError.{CommandError}
use Rattle.om_commands.specs.declared.error.CommandError.TheVariants as errors
use Rattle.om_run_commands.specs.ClusterScript.{ClusterFile}
use Rattle.om_run_commands.specs.Follow.{IsBytesAnswer, IsFollowedRawAnswer, IsPartOf, IsRawPartOf, bytes_told}
use Rattle.om_run_commands.specs.Run.{IsByKind}
use Rattle.om_run_commands.specs.steps.Errors.{error_of_run}
use Rattle.om_run_commands.specs.steps.Scripts.{IsErrorOfRawScript, IsErrorOfScript}
use Rattle.om_run_commands.proofs.FollowLemmas.{partly_of_fault}
use Rattle.om_run_commands.proofs.RunLemmas.{ok_at}

-- ---- what one more that is told adds
own_one : (p : ℕ) (t : Told) → t.process ≡ p → of_process p (t ∷ []) ≡ t ∷ []
own_one p t same = ap (λ b. cond b (t ∷ []) []) (eq-eqb t.process p same)

other_one : (p : ℕ) (t : Told) → t.process ≢ p → of_process p (t ∷ []) ≡ []
other_one p t apart =
    let no : (t.process == p) ≡ false = grind (arith, nat_tests) in
    ap (λ b. cond b (t ∷ []) []) no

-- its bytes, where it is the process's
pub own_more : (p : ℕ) (a b c : Option (List ℕ)) (told : List Told) (t : Told) → t.process ≡ p → Appends a b (bytes_told p told) → Appends b c t.bytes
    → Appends a c (bytes_told p (told ++ t ∷ []))
own_more p a b c told t same before more =
    let own : of_process p (told ++ t ∷ []) ≡ of_process p told ++ t ∷ [] =
    filter-append (λ (t : Told). t.process == p) told (t ∷ []) ∙ ap (λ l. of_process p told ++ l) (own_one p t same)
    in
    let text : bytes_told p (told ++ t ∷ []) ≡ bytes_told p told ++ t.bytes =
    ap {A = List Told} (λ l. flat_map (λ (t : Told). t.bytes) l) own ∙ flat_map-append (λ (t : Told). t.bytes) (of_process p told) (t ∷ [])
    ∙ ap (λ l. bytes_told p told ++ l) (append-nil t.bytes)
    in subst (Appends a c) (sym text) (Appends-trans a b c _ _ before more)

-- nothing, where it is another's
pub other_more : (p : ℕ) (a b : Option (List ℕ)) (told : List Told) (t : Told) → t.process ≢ p → Appends a b (bytes_told p told)
    → Appends a b (bytes_told p (told ++ t ∷ []))
other_more p a b told t apart before =
    let own : of_process p (told ++ t ∷ []) ≡ of_process p told =
    filter-append (λ (t : Told). t.process == p) told (t ∷ []) ∙ ap (λ l. of_process p told ++ l) (other_one p t apart) ∙ append-nil (of_process p told)
    in subst (Appends a b) (sym (ap {A = List Told} (λ l. flat_map (λ (t : Told). t.bytes) l) own)) before

-- ---- what is told of a process in the end
-- a script is answered by the bytes of what its run told of a process
pub bytes_of_report : {E : Type 0} (p : ℕ) (over_clean : Type 0) (script : ClusterFile) (images : List Image) (r : Result FollowedReport E) (report : FollowedReport)
    (a b : Option (List ℕ)) (same_after : Type 0)
    → r ≡ Ok report → map program_of images ≡ programs_of script.cluster
    → IfOk r (λ report. (told : List Told) × (same_after × Appends a b (bytes_told p told))
    × IsToldReport over_clean (map program_of images) report.statuses.items report.front told)
    → (text : List ℕ) × IsBytesAnswer p over_clean report.statuses.items script text × Appends a b text
bytes_of_report p over_clean script images r report a b same_after is programs told =
    let all = ok_at (λ report. (told : List Told) × (same_after × Appends a b (bytes_told p told)) × IsToldReport over_clean (map program_of images) report.statuses.items report.front told) r report is told in (
      bytes_told p all.0,
      record {
        front = report.front;
        told = all.0;
        is_told = subst (λ ps. IsToldReport over_clean ps report.statuses.items report.front all.0) programs all.2;
        is_text = refl;
      },
      all.1.1,
    )

-- ---- a run that comes to no end
part_told : (p : ℕ) (over_clean : Type 0) (script : ClusterFile) (images : List Image) (same_after : Type 0) (a b : Option (List ℕ))
    → map program_of images ≡ programs_of script.cluster
    → (told : List Told) × (same_after × Appends a b (bytes_told p told)) × AreInOrder told × (over_clean → AreToldMade (map program_of images) (length images) told)
    → IsPartOf (bytes_told p) over_clean script a b
part_told p over_clean script images same_after a b programs is = (
  is.0,
  is.2,
  λ clean. subst (λ ps. AreToldMade ps (length ps) is.0) programs (subst (λ n. AreToldMade (map program_of images) n is.0) (sym (length-map images program_of)) (is.3 clean)),
  is.1.1,
)

pub part_of_bytes : (p : ℕ) (over_clean : Type 0) (script : ClusterFile) (images : List Image) (r : Result FollowedReport FollowFault) (fault : FollowFault)
    (error : CommandError) (same_after : Type 0) (a b : Option (List ℕ)) (none : Type 0)
    → r ≡ Err fault → map program_of images ≡ programs_of script.cluster
    → (fault ≡ Unwanted → (error ≡ errors.NoMemory) ⊎ (error ≡ errors.CannotWrite)) → ((f : RunFault) → fault ≡ Run f → error ≡ error_of_run f)
    → IfErr r (λ fault. fault ≢ Unwanted → (told : List Told) × (same_after × Appends a b (bytes_told p told)) × AreInOrder told
    × (over_clean → AreToldMade (map program_of images) (length images) told))
    → IsByKind error (IsPartOf (bytes_told p) over_clean script a b) none
part_of_bytes p over_clean script images r fault error same_after a b none is programs unwanted run partly =
    let told = subst (λ x. IfErr x (λ fault. fault ≢ Unwanted → (told : List Told) × (same_after × Appends a b (bytes_told p told)) × AreInOrder told
    × (over_clean → AreToldMade (map program_of images) (length images) told))) is partly in
    partly_of_fault fault error (IsPartOf (bytes_told p) over_clean script a b) none unwanted run
    (λ wanted. part_told p over_clean script images same_after a b programs (told wanted))

-- what holds of a run that came to no end holds in other words
pub by_kind : (error : CommandError) (P Q none : Type 0) → (P → Q) → IsByKind error P none → IsByKind error Q none
by_kind errors.CannotWrite P Q none then is = tt
by_kind errors.NoMemory P Q none then is = tt
by_kind errors.OutOfTurns P Q none then is = then is
by_kind errors.GateShut P Q none then is = then is
by_kind errors.StoreFault P Q none then is = then is
by_kind (errors.StoreInUse process) P Q none then is = then is
by_kind (errors.AnotherCluster process) P Q none then is = then is
by_kind (errors.StoreMissing process) P Q none then is = then is
by_kind errors.NoThread P Q none then is = then is
by_kind errors.TooLong P Q none then is = is
by_kind errors.CannotRead P Q none then is = is
by_kind errors.EmptyScript P Q none then is = is
by_kind (errors.Script error) P Q none then is = is
by_kind errors.NoCheckpoint P Q none then is = is
by_kind (errors.Damaged y) P Q none then is = is
by_kind (errors.MissingReceipt y) P Q none then is = is
by_kind (errors.Mismatch y) P Q none then is = is
by_kind errors.Unlike P Q none then is = is
by_kind errors.NoSuchProcess P Q none then is = is

-- ---- the process of a name
pub named_answer : {A : Type 0} (name : List ℕ) (p : ℕ) (over_clean : Type 0) (script : ClusterFile) (r : Result A CommandError) (statuses_of : A → List Status)
    (a b : Option (List ℕ)) → place_of name script.cluster.processes ≡ Some p
    → IfOk r (λ x. (text : List ℕ) × IsBytesAnswer p over_clean (statuses_of x) script text × Appends a b text)
    → IfOk r (λ x. (text : List ℕ) × IsFollowedRawAnswer name over_clean (statuses_of x) script text × Appends a b text)
named_answer name p over_clean script (Ok x) statuses_of a b at is = (is.0, (p, at, is.1), is.2)
named_answer name p over_clean script (Err e) statuses_of a b at is = tt

pub named_part : {A : Type 0} (name : List ℕ) (p : ℕ) (over_clean : Type 0) (script : ClusterFile) (r : Result A CommandError) (a b : Option (List ℕ)) (none : Type 0)
    → place_of name script.cluster.processes ≡ Some p
    → IfErr r (λ error. IsByKind error (IsPartOf (bytes_told p) over_clean script a b) none) → IfErr r (λ error. IsByKind error (IsRawPartOf name over_clean script a b) none)
named_part name p over_clean script (Ok x) a b none at is = tt
named_part name p over_clean script (Err e) a b none at is =
    by_kind e (IsPartOf (bytes_told p) over_clean script a b) (IsRawPartOf name over_clean script a b) none (λ part. (p, at, part)) is

raw_error : (name : List ℕ) (script : ClusterFile) (error : CommandError) → IsErrorOfScript script error → IsErrorOfRawScript name script error
raw_error name script errors.CannotWrite is = is
raw_error name script errors.NoMemory is = is
raw_error name script errors.OutOfTurns is = is
raw_error name script errors.GateShut is = is
raw_error name script errors.StoreFault is = is
raw_error name script (errors.StoreInUse process) is = is
raw_error name script (errors.AnotherCluster process) is = is
raw_error name script (errors.StoreMissing process) is = is
raw_error name script errors.NoThread is = is
raw_error name script errors.TooLong is = is
raw_error name script errors.CannotRead is = is
raw_error name script errors.EmptyScript is = is
raw_error name script (errors.Script error) is = is
raw_error name script errors.NoCheckpoint is = is
raw_error name script (errors.Damaged y) is = is
raw_error name script (errors.MissingReceipt y) is = is
raw_error name script (errors.Mismatch y) is = is
raw_error name script errors.Unlike is = is
raw_error name script errors.NoSuchProcess never = absurd never

pub raw_errors : {A : Type 0} (name : List ℕ) (script : ClusterFile) (r : Result A CommandError) → IfErr r (IsErrorOfScript script) → IfErr r (IsErrorOfRawScript name script)
raw_errors name script (Ok x) is = tt
raw_errors name script (Err e) is = raw_error name script e is
