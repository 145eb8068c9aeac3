-- What is answered to a request for a run, by what is asked.
use Rattle.std.specs.Prelude.{ℕ, List, Option, Result, Ok, Err, IfSome, ⊤}
use Rattle.std.specs.Io.KnownBytes.{Appends, Keeps}
use Rattle.om_arguments.specs.declared.arguments.Checking.{Checking}
use Rattle.om_arguments.specs.declared.arguments.Checking.TheVariants as asked
use Rattle.om_arguments.specs.declared.arguments.OutputForm.{OutputForm}
use Rattle.om_arguments.specs.declared.arguments.OutputForm.TheVariants as forms
use Rattle.om_arguments.specs.declared.arguments.Running.{Running}
use Rattle.om_commands.specs.Command.{IsSilent}
use Rattle.om_commands.specs.declared.bytes_text.BytesForm.{BytesForm}
use Rattle.om_commands.specs.declared.bytes_text.BytesForm.TheVariants as written
use Rattle.om_commands.specs.declared.error.CommandError.{CommandError}
use Rattle.om_outcomes.specs.declared.failure.Failure.{Failure}
use Rattle.om_outcomes.specs.declared.failure.Failure.TheVariants as failures
use Rattle.om_process.specs.declared.status.Status.{Status}
use Rattle.om_run_commands.specs.Modes.{IsErrorIn, IsFollowing, IsPartIn, IsRunIn}
use Rattle.om_run_commands.specs.Run.{IsByKind}
use Rattle.om_run_commands.specs.declared.mode.RunMode.{RunMode}
use Rattle.om_run_commands.specs.declared.mode.RunMode.TheVariants as modes

-- the mode of a run that is to be checked so
abbrev pub mode_of : Checking → RunMode
mode_of asked.Off = modes.Plain
mode_of asked.Check = modes.Check
mode_of (asked.Witness path) = modes.Witness
mode_of (asked.Record path) = modes.Record
mode_of asked.Follow = modes.Follow
mode_of (asked.Raw name) = modes.Raw name
mode_of (asked.FollowRaw name) = modes.FollowRaw name

-- the form of bytes that is asked for
abbrev pub form_of : OutputForm → BytesForm
form_of forms.Hex = written.Hex
form_of forms.Text = written.Text

-- The text answers the cluster file that these bytes are, in a run that ended with these statuses: with `--check` or `--witness` it is that
-- of a run without failures, with `--follow` what was released with the ends behind it, with `--raw` the bytes of one process, and else that
-- of a run; where stores are clean it is the programs' own.
abbrev pub IsAskedRun : Running → Type 0 → List Status → List ℕ → List ℕ → Type 0
IsAskedRun running over_clean statuses bytes text = IsRunIn (mode_of running.checking) (form_of running.form) over_clean statuses bytes text

-- the text of some run answers these bytes so, and was written
abbrev pub IsAnswered : Running → Type 0 → List ℕ → Option (List ℕ) → Option (List ℕ) → Type 0
IsAnswered running over_clean bytes before after =
    (text : List ℕ) × ((statuses : List Status) × IsAskedRun running over_clean statuses bytes text) × Appends before after text

-- the error refuses these bytes in a run that is asked for so
abbrev pub IsErrorOfAsked : Running → List ℕ → CommandError → Type 0
IsErrorOfAsked running bytes error = IsErrorIn (mode_of running.checking) bytes error

-- What was written where a run was refused whose outputs are written as they are released: those that were released by then, where the bytes
-- are a cluster file, and else nothing. Where the writer refused or memory ran out nothing is known.
abbrev pub IsRefusedRun : Running → Type 0 → List ℕ → Option (List ℕ) → Option (List ℕ) → CommandError → Type 0
IsRefusedRun running over_clean bytes before after error =
    IsByKind error (IsPartIn (mode_of running.checking) (form_of running.form) over_clean bytes before after) (Keeps before after)

-- this is so where the run came to its end, also where how it ended is a failure by what was asked; no run is refused for a file with symbols
abbrev pub WhereRun : {A : Type 0} → Result A Failure → Type 0 → Type 0
WhereRun (Ok done) IsSo = IsSo
WhereRun (Err (failures.Refused error)) IsSo = ⊤
WhereRun (Err failures.Unread) IsSo = ⊤
WhereRun (Err failures.Strict) IsSo = IsSo
WhereRun (Err failures.NoSuchName) IsSo = ⊥

-- this is so of the error where the run was refused
abbrev pub WhereRefused : {A : Type 0} → Result A Failure → (CommandError → Type 0) → Type 0
WhereRefused (Ok done) IsSo = ⊤
WhereRefused (Err (failures.Refused error)) IsSo = IsSo error
WhereRefused (Err failures.Unread) IsSo = ⊤
WhereRefused (Err failures.Strict) IsSo = ⊤
WhereRefused (Err failures.NoSuchName) IsSo = ⊥

-- of a run that came to its end, the text of some run answers the bytes so, where these are known
abbrev pub AnswersRun : {A : Type 0} → Running → Type 0 → Option (List ℕ) → Result A Failure → Option (List ℕ) → Option (List ℕ) → Type 0
AnswersRun running over_clean remaining result before after =
    IfSome remaining (λ bytes. WhereRun result (IsAnswered running over_clean bytes before after))

-- a run that was refused tells an error of the bytes, where these are known
abbrev pub TellsErrorOf : {A : Type 0} → Running → Option (List ℕ) → Result A Failure → Type 0
TellsErrorOf running remaining result = IfSome remaining (λ bytes. WhereRefused result (IsErrorOfAsked running bytes))

-- a run whose outputs are not written as they are released, and that was refused, wrote nothing, unless it was the writer that refused
abbrev pub IsSilentUnfollowed : {A : Type 0} → Running → Result A Failure → Option (List ℕ) → Option (List ℕ) → Type 0
IsSilentUnfollowed running result before after =
    (IsFollowing (mode_of running.checking) → ⊥) → WhereRefused result (λ error. IsSilent error (Keeps before after))

-- a run whose outputs are, and that was refused, wrote those that were released by then
abbrev pub LeavesPart : {A : Type 0} → Running → Type 0 → Option (List ℕ) → Result A Failure → Option (List ℕ) → Option (List ℕ) → Type 0
LeavesPart running over_clean remaining result before after =
    IsFollowing (mode_of running.checking) → IfSome remaining (λ bytes. WhereRefused result (IsRefusedRun running over_clean bytes before after))
