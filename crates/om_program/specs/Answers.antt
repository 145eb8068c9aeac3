-- What the program writes, by what is asked of it.
use Rattle.std.specs.Prelude.{◌≡◌, ℕ, [], List, Option, None, Some, Bool, true, false, ⊤}
use Rattle.std.specs.Io.KnownBytes.{Appends}
use Rattle.om_arguments.specs.declared.arguments.Request.{Request}
use Rattle.om_arguments.specs.declared.arguments.Request.TheVariants as requests
use Rattle.om_arguments.specs.declared.look_requests.Look.{Look}
use Rattle.om_arguments.specs.declared.look_requests.Look.TheVariants as looks
use Rattle.om_commands.specs.Command.{IsErrorOf}
use Rattle.om_commands.specs.Decode.{IsDecoded}
use Rattle.om_commands.specs.Frontier.{IsFrontier}
use Rattle.om_commands.specs.Replay.{IsNoMatterOfContent, IsReplayError, IsReplayText}
use Rattle.om_commands.specs.RecordScript.{no_records, record_script_line}
use Rattle.om_commands.specs.ReplaySteps.{IsStepsText}
use Rattle.om_commands.specs.Sim.{IsErrorOfSim, IsSim}
use Rattle.om_commands.specs.WordScript.{word_script_line}
use Rattle.om_commands.specs.declared.error.CommandError.{CommandError}
use Rattle.om_commands.specs.declared.error.CommandError.TheVariants as errors
use Rattle.om_debug_command.specs.Debug.{IsErrorOfDebug}
use Rattle.om_draw_command.specs.Draw.{IsDrawn}
use Rattle.om_explore_command.specs.Request.{IsExploredFile}
use Rattle.om_files.specs.Looked.{IsErrorOfFile, IsSoOfFile}
use Rattle.om_folding.specs.Folding.{folded}
use Rattle.om_look.specs.Show.{IsShown}
use Rattle.om_look_commands.specs.Looks.{IsShownWithBodies}
use Rattle.om_run_commands.specs.Modes.{IsFollowing}
use Rattle.om_run_commands.specs.Run.{IsErrorOfRun}
use Rattle.om_stored_debug.specs.Shown.{IsErrorOfShownStore as IsErrorOfShownStore}
use Rattle.om_run_request.specs.Asked.{IsAnswered, IsErrorOfAsked, IsRefusedRun, form_of, mode_of}

-- the text is this one, or it with its rows of zeros folded
abbrev pub IsInForm : Bool → (List ℕ → Type 0) → List ℕ → Type 0
IsInForm false IsText text = IsText text
IsInForm true IsText text = (whole : List ℕ) × IsText whole × (text ≡ folded whole)

-- what a look into the store of a file shows
abbrev pub IsLookText : Look → List ℕ → Type 0
IsLookText (looks.Show file None) text = IsSoOfFile (λ held. IsShown held text)
IsLookText (looks.Show file (Some form)) text = IsSoOfFile (λ held. IsShownWithBodies (form_of form) held text)
IsLookText (looks.Replay file interval short) text = IsInForm short (λ whole. IsSoOfFile (λ held. IsReplayText held interval whole)) text
IsLookText (looks.Steps file interval steps traced short) text =
    IsInForm short (λ whole. IsSoOfFile (λ held. IsStepsText held interval steps traced whole)) text

-- some text of this kind was written
abbrev pub Writes : (List ℕ → Type 0) → Option (List ℕ) → Option (List ℕ) → Type 0
Writes IsText before after = (text : List ℕ) × IsText text × Appends before after text

-- what is written of an answer to these bytes, by the request; what is written of a debugger and of an image is said elsewhere
abbrev pub IsAnswerTo : Request → List ℕ → Option (List ℕ) → Option (List ℕ) → Type 0
IsAnswerTo (requests.Decode ext) bytes before after = Writes (IsDecoded ext bytes) before after
IsAnswerTo requests.Frontier bytes before after = Writes (IsFrontier bytes) before after
IsAnswerTo (requests.Sim form) bytes before after = Writes (IsSim (form_of form) bytes) before after
IsAnswerTo (requests.Draw lines) bytes before after = Writes (IsDrawn lines.from lines.to bytes) before after
IsAnswerTo (requests.Run running) bytes before after = IsAnswered running (running.prefix ≡ None) bytes before after
IsAnswerTo (requests.Explore exploring) bytes before after = Writes (IsExploredFile (form_of exploring.form) exploring.all bytes) before after
IsAnswerTo (requests.Look look) bytes before after = Writes (IsLookText look) before after
IsAnswerTo _ bytes before after = ⊤

-- what is written of the request is written at its end, when all of it is known
abbrev pub IsWrittenAtOnce : Request → Type 0
IsWrittenAtOnce (requests.Run running) = IsFollowing (mode_of running.checking) → ⊥
IsWrittenAtOnce (requests.Debug process) = ⊥
IsWrittenAtOnce (requests.DebugStore file interval) = ⊥
IsWrittenAtOnce _ = Unit {0}

-- what is written of the request is written as it is released
abbrev pub IsWrittenAlong : Request → Type 0
IsWrittenAlong (requests.Run running) = IsFollowing (mode_of running.checking)
IsWrittenAlong _ = ⊥

-- what was written where such a request was refused with the error, for these bytes
abbrev pub IsRefusedAnswer : Request → List ℕ → Option (List ℕ) → Option (List ℕ) → CommandError → Type 0
IsRefusedAnswer (requests.Run running) bytes before after error = IsRefusedRun running (running.prefix ≡ None) bytes before after error
IsRefusedAnswer _ bytes before after error = ⊤

-- the error refuses a look into the store of a file
abbrev pub IsLookError : Look → CommandError → Type 0
IsLookError (looks.Show file bodies) error = IsNoMatterOfContent error
IsLookError (looks.Replay file interval short) error = IsErrorOfFile (λ held. IsReplayError held interval) error
IsLookError (looks.Steps file interval steps traced short) error = IsErrorOfFile (λ held. IsReplayError held interval) error

-- the error refuses to show processes of a record, whose own errors are these
abbrev pub IsErrorOfDebugging : (CommandError → Type 0) → CommandError → Type 0
IsErrorOfDebugging IsErrorOfRecord errors.NoThread = Unit {0}
IsErrorOfDebugging IsErrorOfRecord error = IsErrorOfRecord error

-- the error refuses to show the process whose store a file holds, at an interval or else at the last
abbrev pub IsErrorOfShownFile : Option ℕ → CommandError → Type 0
IsErrorOfShownFile interval error = IsErrorOfDebugging (IsErrorOfFile (λ held. IsErrorOfShownStore held interval)) error

-- the error refuses the request for these bytes
abbrev pub IsErrorOfRequest : Request → List ℕ → CommandError → Type 0
IsErrorOfRequest (requests.Decode ext) bytes error = IsErrorOf word_script_line [] (λ _. ⊥) bytes error
IsErrorOfRequest requests.Frontier bytes error = IsErrorOf record_script_line no_records (λ script. script.processes ≡ None) bytes error
IsErrorOfRequest (requests.Sim form) bytes error = IsErrorOfSim bytes error
IsErrorOfRequest (requests.Draw lines) bytes error = IsErrorOfSim bytes error
IsErrorOfRequest (requests.Run running) bytes error = IsErrorOfAsked running bytes error
IsErrorOfRequest (requests.Explore exploring) bytes error = IsErrorOfRun bytes error
IsErrorOfRequest (requests.Debug None) bytes error = IsErrorOfDebugging (IsErrorOfSim bytes) error
IsErrorOfRequest (requests.Debug (Some process)) bytes error = IsErrorOfDebugging (IsErrorOfDebug bytes process.now) error
IsErrorOfRequest (requests.DebugStore file interval) bytes error = IsErrorOfShownFile interval error
IsErrorOfRequest (requests.Look look) bytes error = IsLookError look error
IsErrorOfRequest (requests.Image ext name size) bytes error = ⊤
