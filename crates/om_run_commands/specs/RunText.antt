-- What is written of a run of a cluster: what each process put out and is released, and how each ended.
use Rattle.std.specs.Prelude.{◌≡◌, ℕ, List, [], ◌∷◌, ◌++◌, length, slice_index_or, codes, if◌then◌else◌}
use Rattle.std.specs.List.{flat_map, range_with_len}
use Rattle.std.specs.Str.{bytes_eq}
use Rattle.om_manager.specs.Outputs.{HeldOutput}
use Rattle.om_process.specs.declared.status.Status.{Status}
use Rattle.om_process.specs.declared.status.Status.TheVariants.{Ready}
use Rattle.om_scripts.specs.Programs.{Cluster}
use Rattle.om_commands.specs.SimText.{name_at, outputs_text}
use Rattle.om_commands.specs.declared.bytes_text.BytesForm.{BytesForm}
use Rattle.om_commands.specs.declared.bytes_text.BytesForm.TheVariants.{Hex}
use Rattle.om_world.specs.Texts.{status_text}

-- a line for each process, in their order
abbrev pub ends_text : Cluster → List Status → List ℕ
ends_text cluster statuses =
    flat_map (λ p. codes "end " ++ name_at cluster p ++ 32 ∷ status_text (slice_index_or statuses p Ready) ++ 10 ∷ []) (range_with_len 0 (length statuses))

-- the outputs of each process, in the order of the processes, with their bytes in a form, and how they ended
abbrev pub run_text_in : BytesForm → Cluster → List (List HeldOutput) → List Status → List ℕ
run_text_in form cluster released statuses =
    flat_map (λ p. outputs_text form (name_at cluster p) (slice_index_or released p [])) (range_with_len 0 (length released)) ++ ends_text cluster statuses

-- the text of a run as `run_text_in` has it, with the bytes of outputs in hexadecimal
abbrev pub run_text : Cluster → List (List HeldOutput) → List Status → List ℕ
run_text = run_text_in Hex

-- how each process ended stands at the end of the text
abbrev pub TellsEnds : Cluster → List Status → List ℕ → Type 0
TellsEnds cluster statuses text = (before : List ℕ) × (text ≡ before ++ ends_text cluster statuses)

-- the bytes of outputs, one behind the other
abbrev pub bytes_of : List HeldOutput → List ℕ
bytes_of outputs = flat_map (λ output. output.bytes) outputs

-- the bytes of the outputs of the process of a name, and nothing else
abbrev pub raw_text : List ℕ → Cluster → List (List HeldOutput) → List ℕ
raw_text name cluster released =
    flat_map (λ p. if bytes_eq (name_at cluster p) name then bytes_of (slice_index_or released p []) else []) (range_with_len 0 (length released))
