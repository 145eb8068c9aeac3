-- The text of a look before its rows of zeros are folded, and whether they are to be.
use Rattle.std.specs.Prelude.{ℕ, List, None, Some, Bool, false}
use Rattle.om_arguments.specs.declared.look_requests.Look.{Look}
use Rattle.om_arguments.specs.declared.look_requests.Look.TheVariants as looks
use Rattle.om_commands.specs.Replay.{IsReplayText}
use Rattle.om_commands.specs.ReplaySteps.{IsStepsText}
use Rattle.om_files.specs.Looked.{IsSoOfFile}
use Rattle.om_look.specs.Show.{IsShown}
use Rattle.om_look_commands.specs.Looks.{IsShownWithBodies}
use Rattle.om_run_request.specs.Asked.{form_of}

abbrev pub IsLongText : Look → List ℕ → Type 0
IsLongText (looks.Show file None) text = IsSoOfFile (λ held. IsShown held text)
IsLongText (looks.Show file (Some form)) text = IsSoOfFile (λ held. IsShownWithBodies (form_of form) held text)
IsLongText (looks.Replay file interval short) text = IsSoOfFile (λ held. IsReplayText held interval text)
IsLongText (looks.Steps file interval steps traced short) text = IsSoOfFile (λ held. IsStepsText held interval steps traced text)

abbrev pub is_short : Look → Bool
is_short (looks.Show file bodies) = false
is_short (looks.Replay file interval short) = short
is_short (looks.Steps file interval steps traced short) = short
