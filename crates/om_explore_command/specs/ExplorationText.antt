-- What is written of an exploration.
use Rattle.std.specs.Prelude.{◌≡◌, ℕ, ◌+◌, Bool, true, false, List, [], ◌∷◌, ◌++◌, Option, None, Some, length, slice_get, slice_index_or, codes, decimal, if◌then◌else◌, ◌==◌}
use Rattle.std.specs.List.{flat_map, list_any, range_with_len}
use Rattle.hex.specs.Hex.{encode_lower}
use Rattle.sha2.specs.Sha256.{sha256}
use Rattle.om_manager.specs.Outputs.{HeldOutput}
use Rattle.om_process.specs.declared.status.Status.{Status}
use Rattle.om_process.specs.declared.status.Status.TheVariants.{Ready, Waiting}
use Rattle.om_report.specs.declared.report.Report.{Report}
use Rattle.om_scripts.specs.Programs.{Cluster}
use Rattle.om_world.specs.Texts.{status_text}
use Rattle.om_commands.specs.Quoted.{bytes_text}
use Rattle.om_commands.specs.SimText.{name_at}
use Rattle.om_commands.specs.declared.bytes_text.BytesForm.{BytesForm}
use Rattle.om_run_commands.specs.Run.{outputs_of}
use Rattle.om_explore_command.specs.Differences.{DifferFirst}
use Rattle.om_explore_command.specs.Tallies.{text_of}
use Rattle.om_explore_command.specs.declared.difference.TextPosition.{TextPosition}
use Rattle.om_explore_command.specs.declared.difference.TextPosition.TheVariants.{Output, End}
use Rattle.om_explore_command.specs.declared.exploration.Exploration.{Exploration}
use Rattle.om_explore_command.specs.declared.tally.Found.{Found}

abbrev pub is_waiting : Status → Bool
is_waiting Waiting = true
is_waiting _ = false

-- a process that waits, by its name
abbrev pub waiter_text : Cluster → ℕ → Status → List ℕ
waiter_text cluster p Waiting = 32 ∷ name_at cluster p
waiter_text cluster p _ = []

-- the line of who waits, if somebody does
abbrev pub waiting_text : Cluster → List Status → List ℕ
waiting_text cluster statuses =
    if list_any is_waiting statuses
    then codes " waiting" ++ flat_map (λ p. waiter_text cluster p (slice_index_or statuses p Ready)) (range_with_len 0 (length statuses))
    else []

-- the line of a text, by its number
abbrev pub found_line : Cluster → ℕ → Found → List ℕ
found_line cluster number found =
    codes "text " ++ decimal number ++ codes " runs " ++ decimal found.runs ++ codes " sha256 " ++ encode_lower (sha256 (text_of found))
    ++ waiting_text cluster found.outcome.report.statuses.items ++ 10 ∷ []

abbrev pub found_text : Cluster → ℕ → Option Found → List ℕ
found_text cluster number (Some found) = found_line cluster number found
found_text cluster number None = []

-- an output, its bytes in a form, and where it was made, if there is one
abbrev pub output_text : BytesForm → Option HeldOutput → List ℕ
output_text form (Some output) = bytes_text form output.bytes ++ codes " in interval " ++ decimal output.interval
output_text form None = codes "none"

-- what stands at a place in two runs
abbrev pub place_text : BytesForm → Cluster → Report → Report → TextPosition → List ℕ
place_text form cluster one other (Output process number) =
    codes "output " ++ decimal number ++ codes " of " ++ name_at cluster process ++ codes ": "
    ++ output_text form (slice_get (slice_index_or (outputs_of one) process []) number) ++ codes ", "
    ++ output_text form (slice_get (slice_index_or (outputs_of other) process []) number)
place_text form cluster one other (End process) =
    codes "the end of " ++ name_at cluster process ++ codes ": " ++ status_text (slice_index_or one.statuses.items process Ready) ++ codes ", "
    ++ status_text (slice_index_or other.statuses.items process Ready)

-- the line of where the first text and that of a number differ first
abbrev pub difference_text : BytesForm → Cluster → ℕ → Option Found → Option Found → Option (Option TextPosition) → List ℕ
difference_text form cluster number (Some one) (Some other) (Some (Some place)) =
    codes "texts 1 and " ++ decimal number ++ codes " differ at " ++ place_text form cluster one.outcome.report other.outcome.report place ++ 10 ∷ []
difference_text form cluster number _ _ _ = []

-- how many texts there are
abbrev pub texts_text : ℕ → List ℕ
texts_text count = if count == 1 then codes "one text" else decimal count ++ codes " texts"

-- how many runs there were, and where all were asked for, whether these are all
abbrev pub runs_text : Bool → Bool → ℕ → List ℕ
runs_text is_asked true runs = codes "all " ++ decimal runs ++ codes " runs"
runs_text true false runs = decimal runs ++ codes " runs, not all"
runs_text false false runs = decimal runs ++ codes " runs"

-- a line for each text; one for each that differs from the first; and how many there are
abbrev pub exploration_text : BytesForm → Cluster → Bool → Exploration → List (Option TextPosition) → List ℕ
exploration_text form cluster is_asked exploration places =
    flat_map (λ k. found_text cluster (k + 1) (slice_get exploration.found.items k)) (range_with_len 0 (length exploration.found.items))
    ++ flat_map (λ k. difference_text form cluster (k + 1) (slice_get exploration.found.items 0) (slice_get exploration.found.items k) (slice_get places k))
    (range_with_len 0 (length exploration.found.items))
    ++ texts_text (length exploration.found.items) ++ codes " in " ++ runs_text is_asked exploration.is_all exploration.runs ++ 10 ∷ []

-- at these places the first of what was found and the others differ first
abbrev pub DifferAt : ℕ → List Found → List (Option TextPosition) → Type 0
DifferAt n found places = (k : ℕ) (one other : Found) (place : Option TextPosition) → slice_get found 0 ≡ Some one → slice_get found k ≡ Some other
    → slice_get places k ≡ Some place → DifferFirst n one.outcome.report other.outcome.report place

-- of each outcome that was found there is a place where it differs from the first, or none
pub record ArePlaces (n : ℕ) (found : List Found) (places : List (Option TextPosition)) : Type 0 where
  pub number : length places ≡ length found
  pub each : DifferAt n found places

-- the text of an exploration, of which it is said whether all runs were asked for, with the bytes of outputs in a form
pub record IsExplorationText (form : BytesForm) (cluster : Cluster) (is_asked : Bool) (exploration : Exploration) (text : List ℕ) : Type 0 where
  pub places : List (Option TextPosition)
  pub are_places : ArePlaces (length cluster.processes) exploration.found.items places
  pub written : text ≡ exploration_text form cluster is_asked exploration places
