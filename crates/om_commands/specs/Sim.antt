-- What the command `sim` answers to the bytes of its input.
use Rattle.std.specs.Prelude.{◌≡◌, ℕ, List, [], ◌∷◌, ◌++◌, All, length}
use Rattle.om_process.specs.Process.{Program}
use Rattle.om_scripts.specs.Programs.{programs_of}
use Rattle.om_world.specs.Played.{IsFaultless, Step}
use Rattle.om_world.specs.Holds.{Holds}
use Rattle.om_world.specs.Started.{IsStarted}
use Rattle.om_world.specs.World.{WorldState, IsKnown}
use Rattle.om_world.specs.declared.event.Answer.{Answer}
use Rattle.om_world.specs.declared.event.Event.{Event}
use Rattle.om_commands.specs.Command.{AnswersScript, IsErrorOf}
use Rattle.om_commands.specs.SimScript.{EventScript, event_script_line, no_events}
use Rattle.om_commands.specs.SimText.{answer_line, end_text}
use Rattle.om_commands.specs.declared.bytes_text.BytesForm.{BytesForm}
use Rattle.om_commands.specs.declared.error.CommandError.{CommandError}

-- the error is that of these bytes, where a script without a process is empty
abbrev pub IsErrorOfSim : List ℕ → CommandError → Type 0
IsErrorOfSim bytes error = IsErrorOf event_script_line no_events (λ script. length script.cluster.processes ≡ 0) bytes error

-- a world of these programs at its start, over stores that held nothing
abbrev pub IsBegun : List Program → WorldState → Type 0
IsBegun programs w = IsStarted programs w × IsKnown w × Holds w

-- the events, each with its answer, and a line for each
abbrev pub PlayedLines : WorldState → List Event → List Answer → WorldState → List ℕ → Type 0
PlayedLines old [] [] new lines = (new ≡ old) × (lines ≡ [])
PlayedLines old (e ∷ es) (a ∷ answers) new lines =
    (mid : WorldState) × Step old e a mid × (rest : List ℕ) × PlayedLines mid es answers new rest
    × (lines ≡ answer_line a mid.manager.recovery ++ rest)
PlayedLines old events answers new lines = ⊥

-- the answers to the events of a script, played from this world on, and how it stands in the end, with outputs in a form; no store failed
abbrev pub IsPlayed : BytesForm → EventScript → WorldState → List ℕ → Type 0
IsPlayed form script begun text =
    (end : WorldState) × (answers : List Answer) × (lines : List ℕ) × PlayedLines begun script.events answers end lines × IsKnown end
    × All IsFaultless answers × (text ≡ lines ++ end_text form script.cluster (length script.cluster.processes) end)

-- the text that `sim` writes of a script: its events are played from the start of its world
abbrev pub IsSimAnswer : BytesForm → EventScript → List ℕ → Type 0
IsSimAnswer form script text = (begun : WorldState) × IsBegun (programs_of script.cluster) begun × IsPlayed form script begun text

-- the answer to the script that these bytes are
abbrev pub IsSim : BytesForm → List ℕ → List ℕ → Type 0
IsSim form bytes text = AnswersScript event_script_line no_events (IsSimAnswer form) bytes text
