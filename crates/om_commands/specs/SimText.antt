-- What is written of a world: an answer to each event, and how it stands in the end.
use Rattle.std.specs.Prelude.{ℕ, List, [], ◌∷◌, ◌++◌, length, slice_get, slice_index_or, Option, Some, codes, decimal}
use Rattle.std.specs.List.{flat_map, range_with_len}
use Rattle.om_manager.specs.Outputs.{HeldOutput}
use Rattle.om_manager.specs.State.{released_by}
use Rattle.om_process.specs.Core.{CoreState, move_of, status_of}
use Rattle.om_scripts.specs.Programs.{Cluster}
use Rattle.om_world.specs.World.{WorldState}
use Rattle.om_world.specs.Texts.{answer_text, status_text}
use Rattle.om_world.specs.declared.event.Answer.{Answer}
use Rattle.om_world.specs.declared.event.Answer.TheVariants.{Restarted}
use Rattle.om_commands.specs.Quoted.{bytes_text}
use Rattle.om_commands.specs.Report.{intervals_text}
use Rattle.om_commands.specs.declared.bytes_text.BytesForm.{BytesForm}

-- the line of an answer, behind which this is the recovery state: that to a restart tells it
abbrev pub answer_line : Answer → List ℕ → List ℕ
answer_line Restarted state = codes "restarted" ++ intervals_text state
answer_line answer state = answer_text answer ++ 10 ∷ []

-- the name of a process
abbrev pub name_at : Cluster → ℕ → List ℕ
name_at cluster p = (slice_index_or cluster.processes p ([], 0)).0

-- where a process stands
abbrev pub core_text : Option (Option CoreState) → List ℕ
core_text (Some (Some c)) =
    codes "inc " ++ decimal c.inc ++ codes " interval " ++ decimal c.now.interval ++ 32 ∷ status_text (status_of (move_of c))
core_text _ = codes "down"

-- the line of an output, by its number, with its bytes in a form
abbrev pub output_line : BytesForm → List ℕ → ℕ → List ℕ → List ℕ
output_line form name number bytes = codes "out " ++ name ++ 32 ∷ decimal number ++ 32 ∷ bytes_text form bytes ++ 10 ∷ []

-- a line for each output of a process
abbrev pub outputs_text : BytesForm → List ℕ → List HeldOutput → List ℕ
outputs_text form name outputs =
    flat_map (λ number. output_line form name number (slice_index_or outputs number (record { interval = 0; bytes = [] })).bytes) (range_with_len 0 (length outputs))

-- how a world of n processes stands: the recovery state, each process, and then what is released of each
abbrev pub end_text : BytesForm → Cluster → ℕ → WorldState → List ℕ
end_text form cluster n w =
    codes "recovery" ++ intervals_text w.manager.recovery
    ++ flat_map (λ p. codes "proc " ++ name_at cluster p ++ 32 ∷ core_text (slice_get w.cores p) ++ 10 ∷ []) (range_with_len 0 n)
    ++ flat_map (λ p. outputs_text form (name_at cluster p) (released_by w.manager p)) (range_with_len 0 n)
