-- From what a run over any stores answers to what a request for one is answered with.
use Rattle.std.proofs.Common.{◌≡◌, ◌⊎◌, ℕ, List, Option, None, Some, Result, Ok, Err, IfErr, IfOk, inl, inr, sym, subst}
use Rattle.std.specs.Prelude.{IfSome, MatchResult, Vec}
use Rattle.std.specs.Io.KnownBytes.{Appends, Keeps}
use Rattle.std.specs.declared.alloc.Global.{Global}
use Rattle.om_arguments.specs.declared.arguments.Running.{Running}
use Rattle.om_commands.specs.declared.bytes_text.BytesForm.{BytesForm}
use Rattle.om_commands.specs.declared.error.CommandError.{CommandError}
use Rattle.om_commands.specs.declared.error.CommandError.TheVariants as errors
use Rattle.om_outcomes.specs.declared.failure.Failure.{Failure}
use Rattle.om_outcomes.specs.declared.failure.Failure.TheVariants as failures
use Rattle.om_process.specs.Process.{Program}
use Rattle.om_process.specs.declared.status.Status.{Status}
use Rattle.om_report.specs.declared.report.Report.{Report}
use Rattle.om_run_commands.specs.ClusterScript.{ClusterFile}
use Rattle.om_run_commands.specs.Follow.{IsFollowedAnswer, IsFollowedRawAnswer}
use Rattle.om_run_commands.specs.Modes.{IsAnswerIn, IsErrorIn, IsPartIn, IsRunIn}
use Rattle.om_report.specs.Reports.{IsReport, IsToldReport}
use Rattle.om_report.specs.Telling.{Told}
use Rattle.om_run_commands.specs.Run.{IsByKind, IsRawAnswer, IsRunAnswer}
use Rattle.om_run_commands.specs.declared.mode.RunMode.{RunMode}
use Rattle.om_run_commands.specs.declared.mode.RunMode.TheVariants as modes
use Rattle.om_run_request.specs.Asked.{IsAnswered, IsAskedRun, IsErrorOfAsked, IsRefusedRun, WhereRefused, WhereRun, form_of, mode_of}

-- ---- by the kind of an error
kind_along : (error : CommandError) (P Q K : Type 0) → (P → Q) → IsByKind error P K → IsByKind error Q K
kind_along errors.CannotWrite P Q K f h = tt
kind_along errors.NoMemory P Q K f h = tt
kind_along errors.OutOfTurns P Q K f h = f h
kind_along errors.GateShut P Q K f h = f h
kind_along errors.StoreFault P Q K f h = f h
kind_along (errors.StoreInUse process) P Q K f h = f h
kind_along (errors.AnotherCluster process) P Q K f h = f h
kind_along (errors.StoreMissing process) P Q K f h = f h
kind_along errors.NoThread P Q K f h = f h
kind_along _ P Q K f h = h

-- ---- over stores that are clean where others are
module _ (A B : Type 0) (back : B → A) where
  report_along : (programs : List Program) (report : Report) → IsReport A programs report → IsReport B programs report
  report_along programs report h = record {
    released = h.released;
    made = λ b. h.made (back b);
    processes = h.processes;
    statuses = h.statuses;
    ended = h.ended;
    all = λ b. h.all (back b);
  }

  followed_report_along : (programs : List Program) (statuses : List Status) (front : _) (told : List Told) → IsToldReport A programs statuses front told
      → IsToldReport B programs statuses front told
  followed_report_along programs statuses front told h = record {
    processes = h.processes;
    ended = h.ended;
    in_order = h.in_order;
    made = λ b. h.made (back b);
    all = λ b. h.all (back b);
    others = h.others;
  }

  told_along : (form : BytesForm) (script : ClusterFile) (text : List ℕ) → IsRunAnswer form A script text → IsRunAnswer form B script text
  told_along form script text h = (h.0, report_along _ h.0 h.1, h.2)

  followed_along : (form : BytesForm) (script : ClusterFile) (text : List ℕ) → IsFollowedAnswer form A script text → IsFollowedAnswer form B script text
  followed_along form script text h =
      record { statuses = h.statuses; front = h.front; told = h.told; is_told = followed_report_along _ h.statuses h.front h.told h.is_told; is_text = h.is_text }

  raw_along : (name : List ℕ) (statuses : List Status) (script : ClusterFile) (text : List ℕ) → IsRawAnswer name A statuses script text
      → IsRawAnswer name B statuses script text
  raw_along name statuses script text h =
      record { report = h.report; is_report = report_along _ h.report h.is_report; ended = h.ended; is_text = h.is_text }

  followed_raw_along : (name : List ℕ) (statuses : List Status) (script : ClusterFile) (text : List ℕ) → IsFollowedRawAnswer name A statuses script text
      → IsFollowedRawAnswer name B statuses script text
  followed_raw_along name statuses script text h = (
    h.0,
    h.1,
    record { front = h.2.front; told = h.2.told; is_told = followed_report_along _ statuses h.2.front h.2.told h.2.is_told; is_text = h.2.is_text },
  )

  answer_along : (mode : RunMode) (form : BytesForm) (statuses : List Status) (script : ClusterFile) (text : List ℕ)
      → IsAnswerIn mode form A statuses script text → IsAnswerIn mode form B statuses script text
  answer_along modes.Plain form statuses script text h = (told_along form script text h.0, h.1)
  answer_along modes.Check form statuses script text h = h
  answer_along modes.Witness form statuses script text h = h
  answer_along modes.Record form statuses script text h = (told_along form script text h.0, h.1)
  answer_along modes.Follow form statuses script text h = (followed_along form script text h.0, h.1)
  answer_along (modes.Raw name) form statuses script text h = raw_along name.now statuses script text h
  answer_along (modes.FollowRaw name) form statuses script text h = followed_raw_along name.now statuses script text h

  run_along : (mode : RunMode) (form : BytesForm) (statuses : List Status) (bytes text : List ℕ) → IsRunIn mode form A statuses bytes text
      → IsRunIn mode form B statuses bytes text
  run_along mode form statuses bytes text h =
      record { script = h.script; is_script = h.is_script; answer = answer_along mode form statuses h.script text h.answer }

  where_along : {X : Type 0} (r : Result X Failure) (running : Running) (bytes : List ℕ) (a b : Option (List ℕ))
      → WhereRun r (IsAnswered running A bytes a b) → WhereRun r (IsAnswered running B bytes a b)
  where_along (Ok x) running bytes a b h =
      (h.0, (h.1.0, run_along (mode_of running.checking) (form_of running.form) h.1.0 bytes h.0 h.1.1), h.2)
  where_along (Err (failures.Refused e)) running bytes a b h = tt
  where_along (Err failures.Unread) running bytes a b h = tt
  where_along (Err failures.Strict) running bytes a b h =
      (h.0, (h.1.0, run_along (mode_of running.checking) (form_of running.form) h.1.0 bytes h.0 h.1.1), h.2)
  where_along (Err failures.NoSuchName) running bytes a b h = h

  pub answered_along : {X : Type 0} (remaining : Option (List ℕ)) (r : Result X Failure) (running : Running) (a b : Option (List ℕ))
      → IfSome remaining (λ bytes. WhereRun r (IsAnswered running A bytes a b)) → IfSome remaining (λ bytes. WhereRun r (IsAnswered running B bytes a b))
  answered_along None r running a b h = tt
  answered_along (Some bytes) r running a b h = where_along r running bytes a b h

  -- what was written of a run that was refused
  part_along : (mode : RunMode) (form : BytesForm) (bytes : List ℕ) (a b : Option (List ℕ)) → IsPartIn mode form A bytes a b
      → IsPartIn mode form B bytes a b
  part_along modes.Follow form bytes a b h = (h.0, h.1, (h.2.0, h.2.1, (λ over. h.2.2 (back over)), h.2.3))
  part_along (modes.FollowRaw name) form bytes a b h = (h.0, h.1, (h.2.0, h.2.1, (h.2.2.0, h.2.2.1, (λ over. h.2.2.2 (back over)), h.2.2.3)))
  part_along _ form bytes a b h = h

  pub refused_along : {X : Type 0} (remaining : Option (List ℕ)) (r : Result X Failure) (running : Running) (a b : Option (List ℕ))
      → IfSome remaining (λ bytes. WhereRefused r (IsRefusedRun running A bytes a b))
      → IfSome remaining (λ bytes. WhereRefused r (IsRefusedRun running B bytes a b))
  refused_along None r running a b h = tt
  refused_along (Some bytes) (Ok x) running a b h = tt
  refused_along (Some bytes) (Err (failures.Refused e)) running a b h =
      kind_along e (IsPartIn (mode_of running.checking) (form_of running.form) A bytes a b)
      (IsPartIn (mode_of running.checking) (form_of running.form) B bytes a b) (Keeps a b)
      (part_along (mode_of running.checking) (form_of running.form) bytes a b) h
  refused_along (Some bytes) (Err failures.Unread) running a b h = tt
  refused_along (Some bytes) (Err failures.Strict) running a b h = tt
  refused_along (Some bytes) (Err failures.NoSuchName) running a b h = h

-- ---- how a run ended, as a failure or none
abbrev Ends : Result (Vec Status Global) CommandError → Result (Vec Status Global) Failure → Type 0
Ends outcome ended = MatchResult outcome (λ done. ended ≡ Ok done) (λ error. (ended ≡ Err (failures.Refused error))
    ⊎ ((error ≡ errors.CannotWrite) × (ended ≡ Err failures.Unread)))

abbrev Judges : {X : Type 0} → Result (Vec Status Global) Failure → Result X Failure → X → Type 0
Judges ended told done = MatchResult ended (λ _. (told ≡ Ok done) ⊎ (told ≡ Err failures.Strict)) (λ failure. told ≡ Err failure)

where_done : {X : Type 0} (told : Result X Failure) (x : X) (P : Type 0) → (told ≡ Ok x) ⊎ (told ≡ Err failures.Strict) → P → WhereRun told P
where_done {X} told x P (inl done) h = let Q : Result X Failure → Type 0 = λ r. WhereRun r P in subst Q (sym done) h
where_done {X} told x P (inr strict) h = let Q : Result X Failure → Type 0 = λ r. WhereRun r P in subst Q (sym strict) h

where_refused : {X : Type 0} (told : Result X Failure) (e : CommandError) (P : Type 0) → told ≡ Err (failures.Refused e) → WhereRun told P
where_refused {X} told e P is = let Q : Result X Failure → Type 0 = λ r. WhereRun r P in subst Q (sym is) tt

where_unread : {X : Type 0} (told : Result X Failure) (P : Type 0) → told ≡ Err failures.Unread → WhereRun told P
where_unread {X} told P is = let Q : Result X Failure → Type 0 = λ r. WhereRun r P in subst Q (sym is) tt

error_of : {X : Type 0} (told : Result X Failure) (e : CommandError) (P : CommandError → Type 0) → told ≡ Err (failures.Refused e) → P e → WhereRefused told P
error_of {X} told e P is h = let Q : Result X Failure → Type 0 = λ r. WhereRefused r P in subst Q (sym is) h

no_error : {X : Type 0} (told : Result X Failure) (P : CommandError → Type 0) → told ≡ Err failures.Unread → WhereRefused told P
no_error {X} told P is = let Q : Result X Failure → Type 0 = λ r. WhereRefused r P in subst Q (sym is) tt

done_error : {X : Type 0} (told : Result X Failure) (x : X) (P : CommandError → Type 0) → (told ≡ Ok x) ⊎ (told ≡ Err failures.Strict) → WhereRefused told P
done_error {X} told x P (inl done) = let Q : Result X Failure → Type 0 = λ r. WhereRefused r P in subst Q (sym done) tt
done_error {X} told x P (inr strict) = let Q : Result X Failure → Type 0 = λ r. WhereRefused r P in subst Q (sym strict) tt

pub run_text : {X : Type 0} (remaining : Option (List ℕ)) (outcome : Result (Vec Status Global) CommandError) (ended : Result (Vec Status Global) Failure)
    (told : Result X Failure) (done : X) (running : Running) (over : Type 0) (a begun b : Option (List ℕ))
    → Ends outcome ended → Judges ended told done → begun ≡ a
    → IfSome remaining (λ bytes. IfOk outcome (λ statuses. (text : List ℕ) × IsAskedRun running over statuses.items bytes text × Appends begun b text))
    → IfSome remaining (λ bytes. WhereRun told (IsAnswered running over bytes a b))
run_text None outcome ended told done running over a begun b ends judges same h = tt
run_text (Some bytes) (Ok statuses) ended told done running over a begun b ends judges same h =
    where_done told done (IsAnswered running over bytes a b) (subst (λ e. Judges e told done) ends judges)
    (h.0, (statuses.items, h.1), subst (λ o. Appends o b h.0) same h.2)
run_text (Some bytes) (Err e) ended told done running over a begun b (inl refused) judges same h =
    where_refused told e (IsAnswered running over bytes a b) (subst (λ x. Judges x told done) refused judges)
run_text (Some bytes) (Err e) ended told done running over a begun b (inr unread) judges same h =
    where_unread told (IsAnswered running over bytes a b) (subst (λ x. Judges x told done) unread.1 judges)

pub run_error : {X : Type 0} (remaining : Option (List ℕ)) (outcome : Result (Vec Status Global) CommandError) (ended : Result (Vec Status Global) Failure)
    (told : Result X Failure) (done : X) (running : Running)
    → Ends outcome ended → Judges ended told done
    → IfSome remaining (λ bytes. IfErr outcome (IsErrorOfAsked running bytes))
    → IfSome remaining (λ bytes. WhereRefused told (IsErrorOfAsked running bytes))
run_error None outcome ended told done running ends judges h = tt
run_error (Some bytes) (Ok statuses) ended told done running ends judges h =
    done_error told done (IsErrorOfAsked running bytes) (subst (λ e. Judges e told done) ends judges)
run_error (Some bytes) (Err e) ended told done running (inl refused) judges h =
    error_of told e (IsErrorOfAsked running bytes) (subst (λ x. Judges x told done) refused judges) h
run_error (Some bytes) (Err e) ended told done running (inr unread) judges h =
    no_error told (IsErrorOfAsked running bytes) (subst (λ x. Judges x told done) unread.1 judges)

pub run_partly : {X : Type 0} (remaining : Option (List ℕ)) (outcome : Result (Vec Status Global) CommandError)
    (ended : Result (Vec Status Global) Failure) (told : Result X Failure) (done : X) (running : Running) (over : Type 0)
    (a begun b : Option (List ℕ)) → Ends outcome ended → Judges ended told done → begun ≡ a
    → IfSome remaining (λ bytes. IfErr outcome (IsRefusedRun running over bytes begun b))
    → IfSome remaining (λ bytes. WhereRefused told (IsRefusedRun running over bytes a b))
run_partly None outcome ended told done running over a begun b ends judges same h = tt
run_partly (Some bytes) (Ok statuses) ended told done running over a begun b ends judges same h =
    done_error told done (IsRefusedRun running over bytes a b) (subst (λ e. Judges e told done) ends judges)
run_partly (Some bytes) (Err e) ended told done running over a begun b (inl refused) judges same h =
    error_of told e (IsRefusedRun running over bytes a b) (subst (λ x. Judges x told done) refused judges)
    (subst (λ o. IsRefusedRun running over bytes o b e) same h)
run_partly (Some bytes) (Err e) ended told done running over a begun b (inr unread) judges same h =
    no_error told (IsRefusedRun running over bytes a b) (subst (λ x. Judges x told done) unread.1 judges)

-- ---- memory that ran out before a run
no_memory : (mode : RunMode) (bytes : List ℕ) → IsErrorIn mode bytes errors.NoMemory
no_memory modes.Plain bytes = tt
no_memory modes.Check bytes = tt
no_memory modes.Witness bytes = tt
no_memory modes.Record bytes = tt
no_memory modes.Follow bytes = tt
no_memory (modes.Raw name) bytes = tt
no_memory (modes.FollowRaw name) bytes = tt

pub early_text : {X : Type 0} (remaining : Option (List ℕ)) (told : Result X Failure) (running : Running) (over : Type 0) (a b : Option (List ℕ))
    → told ≡ Err (failures.Refused errors.NoMemory) → IfSome remaining (λ bytes. WhereRun told (IsAnswered running over bytes a b))
early_text None told running over a b is = tt
early_text (Some bytes) told running over a b is = where_refused told errors.NoMemory (IsAnswered running over bytes a b) is

pub early_error : {X : Type 0} (remaining : Option (List ℕ)) (told : Result X Failure) (running : Running)
    → told ≡ Err (failures.Refused errors.NoMemory) → IfSome remaining (λ bytes. WhereRefused told (IsErrorOfAsked running bytes))
early_error None told running is = tt
early_error (Some bytes) told running is =
    error_of told errors.NoMemory (IsErrorOfAsked running bytes) is (no_memory (mode_of running.checking) bytes)
