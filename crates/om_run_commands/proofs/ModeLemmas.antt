-- What a run of any mode answers and is refused with, by the script that was read, and by the bytes that it was read from.
use Rattle.std.proofs.Common.{◌≡◌, ℕ, Option, None, Some, Result, Ok, Err, List, [], false, true, refl, sym, subst}
use Rattle.std.specs.Prelude.{IfErr, IfOk, IfSome, Vec}
use Rattle.std.specs.Io.KnownBytes.{Appends, Keeps}
use Rattle.std.proofs.KnownBytes.{Appends-nil, Keeps-refl}
use Rattle.om_board.proofs.ListLemmas.{none_in}
use Rattle.std.specs.declared.alloc.Global.{Global}
use Rattle.om_process.specs.declared.status.Status.{Status}
use Rattle.om_commands.specs.Command.{IsErrorOf, IsScript}
use Rattle.om_commands.specs.declared.bytes_text.BytesForm.{BytesForm}
use Rattle.om_commands.specs.declared.error.CommandError.{CommandError}
use Rattle.om_commands.specs.declared.error.CommandError.TheVariants as errors
use Rattle.om_scripts.specs.Named.{place_of}
use Rattle.om_scripts.specs.Programs.{Cluster}
use Rattle.om_run_commands.specs.ClusterScript.{ClusterFile, cluster_file_line, no_settings}
use Rattle.om_run_commands.specs.Modes.{IsAnswerIn, IsErrorIn, IsErrorOfContext, IsFollowing, IsPartIn, IsPartOfScriptIn, IsRunIn}
use Rattle.om_run_commands.specs.declared.mode.RunMode.{RunMode}
use Rattle.om_run_commands.specs.declared.mode.RunMode.TheVariants as modes
use Rattle.om_run_commands.specs.Run.{IsByKind}
use Rattle.om_run_commands.specs.steps.Modes.{IsErrorOfScriptIn, LacksIn}
use Rattle.om_run_commands.proofs.CheckLemmas.{of_checked}
use Rattle.om_run_commands.proofs.FollowLemmas.{partly_unread}
use Rattle.om_run_commands.proofs.RawLemmas.{by_kind}
use Rattle.om_run_commands.proofs.RunLemmas.{of_raw, of_script}

-- ---- answers
of_answer : (mode : RunMode) (form : BytesForm) (over_clean : Type 0) (statuses : List Status) (bytes : List ℕ) (script : ClusterFile) (text : List ℕ)
    → IsScript cluster_file_line no_settings bytes script
    → IsAnswerIn mode form over_clean statuses script text → IsRunIn mode form over_clean statuses bytes text
of_answer mode form over_clean statuses bytes script text read is = record { script = script; is_script = read; answer = is }

pub text_of_answer : (mode : RunMode) (form : BytesForm) (over_clean : Type 0) (remaining : Option (List ℕ)) (start script : ClusterFile)
    (r : Result (Vec Status Global) CommandError)
    (a b : Option (List ℕ)) → start ≡ no_settings → IfSome remaining (λ bytes. IsScript cluster_file_line start bytes script)
    → IfOk r (λ statuses. (text : List ℕ) × IsAnswerIn mode form over_clean statuses.items script text × Appends a b text)
    → IfSome remaining (λ bytes. IfOk r (λ statuses. (text : List ℕ) × IsRunIn mode form over_clean statuses.items bytes text × Appends a b text))
text_of_answer mode form over_clean None start script r a b is read answer = tt
text_of_answer mode form over_clean (Some bytes) start script (Ok statuses) a b is read answer = (
  answer.0,
  of_answer mode form over_clean statuses.items bytes script answer.0 (subst (λ s. IsScript cluster_file_line s bytes script) is read) answer.1,
  answer.2,
)
text_of_answer mode form over_clean (Some bytes) start script (Err e) a b is read answer = tt

-- ---- errors of a script
of_error : (mode : RunMode) (bytes : List ℕ) (script : ClusterFile) (error : CommandError) → IsScript cluster_file_line no_settings bytes script
    → IsErrorOfScriptIn mode script error → IsErrorIn mode bytes error
of_error modes.Plain bytes script error read told = of_script bytes script error read told
of_error modes.Check bytes script error read told = of_checked bytes script error read told
of_error modes.Witness bytes script error read told = of_checked bytes script error read told
of_error modes.Record bytes script error read told = of_script bytes script error read told
of_error modes.Follow bytes script error read told = of_script bytes script error read told
of_error (modes.Raw name) bytes script error read told = of_raw name.now bytes script error read told
of_error (modes.FollowRaw name) bytes script error read told = of_raw name.now bytes script error read told

pub error_of_answer : {A : Type 0} (mode : RunMode) (remaining : Option (List ℕ)) (start script : ClusterFile) (r : Result A CommandError) → start ≡ no_settings
    → IfSome remaining (λ bytes. IsScript cluster_file_line start bytes script) → IfErr r (IsErrorOfScriptIn mode script)
    → IfSome remaining (λ bytes. IfErr r (IsErrorIn mode bytes))
error_of_answer mode None start script r is read error = tt
error_of_answer mode (Some bytes) start script (Ok x) is read error = tt
error_of_answer mode (Some bytes) start script (Err e) is read error =
    of_error mode bytes script e (subst (λ s. IsScript cluster_file_line s bytes script) is read) error

-- ---- a process that is none of the cluster
pub lacks_is_error : (mode : RunMode) (script : ClusterFile) → LacksIn mode script.cluster → IsErrorOfScriptIn mode script errors.NoSuchProcess
lacks_is_error modes.Plain script never = absurd never
lacks_is_error modes.Check script never = absurd never
lacks_is_error modes.Witness script never = absurd never
lacks_is_error modes.Record script never = absurd never
lacks_is_error modes.Follow script never = absurd never
lacks_is_error (modes.Raw name) script lacks = lacks
lacks_is_error (modes.FollowRaw name) script lacks = lacks

-- ---- other kills
answer_of_others : (mode : RunMode) (form : BytesForm) (over_clean : Type 0) (statuses : List Status) (script : ClusterFile) (kills : List (ℕ × ℕ))
    (text : List ℕ) → IsAnswerIn mode form over_clean statuses (record script { kills = kills }) text → IsAnswerIn mode form over_clean statuses script text
answer_of_others modes.Plain form over_clean statuses script kills text is = is
answer_of_others modes.Check form over_clean statuses script kills text is = is
answer_of_others modes.Witness form over_clean statuses script kills text is = is
answer_of_others modes.Record form over_clean statuses script kills text is = is
answer_of_others modes.Follow form over_clean statuses script kills text is = (
  record {
    statuses = is.0.statuses;
    front = is.0.front;
    told = is.0.told;
    is_told = is.0.is_told;
    is_text = is.0.is_text;
  },
  is.1,
)
answer_of_others (modes.Raw name) form over_clean statuses script kills text is = record {
  report = is.report;
  is_report = is.is_report;
  ended = is.ended;
  is_text = is.is_text;
}
answer_of_others (modes.FollowRaw name) form over_clean statuses script kills text is = (
  is.0,
  is.1,
  record {
    front = is.2.front;
    told = is.2.told;
    is_told = is.2.is_told;
    is_text = is.2.is_text;
  },
)

error_of_others : (mode : RunMode) (script : ClusterFile) (kills : List (ℕ × ℕ)) (error : CommandError)
    → IsErrorOfScriptIn mode (record script { kills = kills }) error → IsErrorOfScriptIn mode script error
error_of_others modes.Plain script kills error told = told
error_of_others modes.Check script kills error told = told
error_of_others modes.Witness script kills error told = told
error_of_others modes.Record script kills error told = told
error_of_others modes.Follow script kills error told = told
error_of_others (modes.Raw name) script kills error told = told
error_of_others (modes.FollowRaw name) script kills error told = told

-- what a script answers whose kills are others, its cluster file does
pub text_with_others : (mode : RunMode) (form : BytesForm) (over_clean : Type 0) (script next : ClusterFile) (r : Result (Vec Status Global) CommandError)
    (a b : Option (List ℕ)) → next ≡ record script { kills = next.kills }
    → IfOk r (λ statuses. (text : List ℕ) × IsAnswerIn mode form over_clean statuses.items next text × Appends a b text)
    → IfOk r (λ statuses. (text : List ℕ) × IsAnswerIn mode form over_clean statuses.items script text × Appends a b text)
text_with_others mode form over_clean script next (Ok statuses) a b is answer = (
  answer.0,
  answer_of_others mode form over_clean statuses.items script next.kills answer.0
      (subst (λ s. IsAnswerIn mode form over_clean statuses.items s answer.0) is answer.1),
  answer.2,
)
text_with_others mode form over_clean script next (Err e) a b is answer = tt

pub error_with_others : {A : Type 0} (mode : RunMode) (script next : ClusterFile) (r : Result A CommandError)
    → next ≡ record script { kills = next.kills }
    → IfErr r (IsErrorOfScriptIn mode next) → IfErr r (IsErrorOfScriptIn mode script)
error_with_others mode script next (Ok x) is error = tt
error_with_others mode script next (Err e) is error =
    error_of_others mode script next.kills e (subst (λ s. IsErrorOfScriptIn mode s e) is error)

part_of_others : (mode : RunMode) (form : BytesForm) (over_clean : Type 0) (script : ClusterFile) (kills : List (ℕ × ℕ)) (a b : Option (List ℕ))
    → IsPartOfScriptIn mode form over_clean (record script { kills = kills }) a b → IsPartOfScriptIn mode form over_clean script a b
part_of_others modes.Plain form over_clean script kills a b part = part
part_of_others modes.Check form over_clean script kills a b part = part
part_of_others modes.Witness form over_clean script kills a b part = part
part_of_others modes.Record form over_clean script kills a b part = part
part_of_others modes.Follow form over_clean script kills a b part = part
part_of_others (modes.Raw name) form over_clean script kills a b part = part
part_of_others (modes.FollowRaw name) form over_clean script kills a b part = part

pub partly_with_others : {A : Type 0} (mode : RunMode) (form : BytesForm) (over_clean : Type 0) (script next : ClusterFile) (r : Result A CommandError)
    (a b : Option (List ℕ)) (none : Type 0) → next ≡ record script { kills = next.kills }
    → IfErr r (λ error. IsByKind error (IsPartOfScriptIn mode form over_clean next a b) none)
    → IfErr r (λ error. IsByKind error (IsPartOfScriptIn mode form over_clean script a b) none)
partly_with_others mode form over_clean script next (Ok x) a b none is partly = tt
partly_with_others mode form over_clean script next (Err e) a b none is partly =
    by_kind e (IsPartOfScriptIn mode form over_clean (record script { kills = next.kills }) a b) (IsPartOfScriptIn mode form over_clean script a b) none
    (part_of_others mode form over_clean script next.kills a b)
    (subst (λ s. IsByKind e (IsPartOfScriptIn mode form over_clean s a b) none) is partly)

-- ---- a part of the answer to a script is one of the answer to its bytes
part_of_bytes : (mode : RunMode) (form : BytesForm) (over_clean : Type 0) (bytes : List ℕ) (script : ClusterFile) (a b : Option (List ℕ))
    → IsScript cluster_file_line no_settings bytes script → IsPartOfScriptIn mode form over_clean script a b → IsPartIn mode form over_clean bytes a b
part_of_bytes mode form over_clean bytes script a b read part = (script, read, part)

pub partly_of_answer : {A : Type 0} (mode : RunMode) (form : BytesForm) (over_clean : Type 0) (remaining : Option (List ℕ)) (start script : ClusterFile)
    (r : Result A CommandError) (a b : Option (List ℕ)) (none : Type 0) → start ≡ no_settings → IfSome remaining (λ bytes. IsScript cluster_file_line start bytes script)
    → IfErr r (λ error. IsByKind error (IsPartOfScriptIn mode form over_clean script a b) none)
    → IfSome remaining (λ bytes. IfErr r (λ error. IsByKind error (IsPartIn mode form over_clean bytes a b) none))
partly_of_answer mode form over_clean None start script r a b none is read part = tt
partly_of_answer mode form over_clean (Some bytes) start script (Ok x) a b none is read part = tt
partly_of_answer mode form over_clean (Some bytes) start script (Err e) a b none is read part =
    by_kind e (IsPartOfScriptIn mode form over_clean script a b) (IsPartIn mode form over_clean bytes a b) none
    (part_of_bytes mode form over_clean bytes script a b (subst (λ s. IsScript cluster_file_line s bytes script) is read)) part

-- nothing is written where the script could not be read
pub partly_of_reading : (mode : RunMode) (form : BytesForm) (over_clean : Type 0) (remaining : Option (List ℕ)) (start : ClusterFile) (error : CommandError)
    (contents : Option (List ℕ)) → start ≡ no_settings
    → IfSome remaining (λ bytes. IsErrorOf cluster_file_line start (λ _. ⊥) bytes error)
    → IfSome remaining (λ bytes. IsByKind error (IsPartIn mode form over_clean bytes contents contents) (Keeps contents contents))
partly_of_reading mode form over_clean None start error contents is wrong = tt
partly_of_reading mode form over_clean (Some bytes) start error contents is wrong =
    partly_unread bytes error _ _ (subst (λ s. IsErrorOf cluster_file_line s (λ _. ⊥) bytes error) is wrong) (Keeps-refl contents)

-- ---- a run that was not made ready
place_there : (o : Option ℕ) → (o ≡ None → false ≡ true) → (p : ℕ) × (o ≡ Some p)
place_there (Some p) lacks = (p, refl)
place_there None lacks =
    let no : false ≡ true = lacks refl in
    let never : ⊥ = cc in
    absurd never

-- nothing that was written is a part, where the process is there that is asked for
nothing_written : (mode : RunMode) (form : BytesForm) (over_clean : Type 0) (script : ClusterFile) (cluster : Cluster) (a : Option (List ℕ))
    → cluster ≡ script.cluster → IsFollowing mode → (LacksIn mode cluster → false ≡ true) → IsPartOfScriptIn mode form over_clean script a a
nothing_written modes.Plain form over_clean script cluster a same never lacks = absurd never
nothing_written modes.Check form over_clean script cluster a same never lacks = absurd never
nothing_written modes.Witness form over_clean script cluster a same never lacks = absurd never
nothing_written modes.Record form over_clean script cluster a same never lacks = absurd never
nothing_written modes.Follow form over_clean script cluster a same follows lacks =
    ([], λ p i t at. absurd (none_in i t at), λ clean p i t at. absurd (none_in i t at), Appends-nil a)
nothing_written (modes.Raw name) form over_clean script cluster a same never lacks = absurd never
nothing_written (modes.FollowRaw name) form over_clean script cluster a same follows lacks =
    let named = place_there (place_of name.now script.cluster.processes)
    (λ (none : place_of name.now script.cluster.processes ≡ None). lacks (subst (λ (k : Cluster). place_of name.now k.processes ≡ None) (sym same) none))
    in (named.0, named.1, ([], λ p i t at. absurd (none_in i t at), λ clean p i t at. absurd (none_in i t at), Appends-nil a))

by_context : (error : CommandError) (part none : Type 0) → IsErrorOfContext error → part → IsByKind error part none
by_context errors.CannotWrite part none told is = tt
by_context errors.NoMemory part none told is = tt
by_context errors.StoreFault part none told is = is
by_context errors.OutOfTurns part none never is = absurd never
by_context errors.GateShut part none never is = absurd never
by_context (errors.StoreInUse process) part none never is = absurd never
by_context (errors.AnotherCluster process) part none never is = absurd never
by_context (errors.StoreMissing process) part none never is = absurd never
by_context errors.NoThread part none never is = absurd never
by_context errors.TooLong part none never is = absurd never
by_context errors.CannotRead part none never is = absurd never
by_context errors.EmptyScript part none never is = absurd never
by_context (errors.Script error) part none never is = absurd never
by_context errors.NoCheckpoint part none never is = absurd never
by_context (errors.Damaged y) part none never is = absurd never
by_context (errors.MissingReceipt y) part none never is = absurd never
by_context (errors.Mismatch y) part none never is = absurd never
by_context errors.Unlike part none never is = absurd never
by_context errors.NoSuchProcess part none never is = absurd never

pub partly_of_context : (mode : RunMode) (form : BytesForm) (over_clean : Type 0) (script : ClusterFile) (cluster : Cluster) (error : CommandError) (a : Option (List ℕ))
    (none : Type 0) → IsErrorOfContext error → cluster ≡ script.cluster → IsFollowing mode → (LacksIn mode cluster → false ≡ true)
    → IsByKind error (IsPartOfScriptIn mode form over_clean script a a) none
partly_of_context mode form over_clean script cluster error a none told same follows lacks =
    by_context error (IsPartOfScriptIn mode form over_clean script a a) none told (nothing_written mode form over_clean script cluster a same follows lacks)
