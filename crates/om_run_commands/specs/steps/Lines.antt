-- The lines that are written.
use Rattle.std.specs.Prelude.{ℕ, List, [], ◌∷◌, ◌++◌, length, slice_index_or, codes}
use Rattle.std.specs.List.{flat_map, range_with_len}
use Rattle.om_manager.specs.Outputs.{HeldOutput}
use Rattle.om_process.specs.declared.status.Status.{Status}
use Rattle.om_runner.specs.Telling.{Told}
use Rattle.om_scripts.specs.Programs.{Cluster}
use Rattle.om_world.specs.Texts.{status_text}
use Rattle.om_commands.specs.SimText.{name_at, output_line, outputs_text}
use Rattle.om_commands.specs.declared.bytes_text.BytesForm.{BytesForm}

-- the line of an output
abbrev pub told_line : BytesForm → Cluster → Told → List ℕ
told_line form cluster t = output_line form (name_at cluster t.process) t.number t.bytes

-- the line of how a process ended
abbrev pub end_line : List ℕ → Status → List ℕ
end_line name status = codes "end " ++ name ++ 32 ∷ status_text status ++ 10 ∷ []

-- the outputs of each process, in the order of the processes
abbrev pub released_text : BytesForm → Cluster → List (List HeldOutput) → List ℕ
released_text form cluster released =
    flat_map (λ p. outputs_text form (name_at cluster p) (slice_index_or released p [])) (range_with_len 0 (length released))
