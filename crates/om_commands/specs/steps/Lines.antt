-- The lines of texts, one by one.
use Rattle.std.specs.Prelude.{ℕ, ◌*◌, List, [], ◌∷◌, ◌++◌, length, take, drop, slice_get, slice_index, slice_index_or, Option, codes, decimal}
use Rattle.std.specs.Int.{div_ceil}
use Rattle.std.specs.List.{flat_map, range_with_len}
use Rattle.hex.specs.Hex.{encode_lower}
use Rattle.om_manager.specs.Outputs.{HeldOutput}
use Rattle.om_manager.specs.State.{ManagerState, released_by}
use Rattle.om_process.specs.Core.{CoreState, move_of, status_of}
use Rattle.om_process.specs.Process.{Process}
use Rattle.om_scripts.specs.Programs.{Cluster}
use Rattle.om_look.specs.Trace.{word_text}
use Rattle.om_world.specs.Texts.{status_text}
use Rattle.om_world.specs.World.{WorldState}
use Rattle.om_world.specs.declared.event.Answer.{Answer}
use Rattle.om_commands.specs.Report.{intervals_text}
use Rattle.om_commands.specs.SimText.{answer_line, core_text, name_at, outputs_text}
use Rattle.om_commands.specs.declared.bytes_text.BytesForm.{BytesForm}
use Rattle.om_commands.specs.declared.state_text.TheConstants.{ROW_BYTES}

-- the line of a register
abbrev pub register_line : ℕ → ℕ → List ℕ
register_line r value = codes "x" ++ decimal r ++ 32 ∷ word_text value ++ 10 ∷ []

-- the line of the memory from an address on
abbrev pub memory_line : List ℕ → ℕ → List ℕ
memory_line memory address = word_text address ++ 32 ∷ encode_lower (take ROW_BYTES (drop address memory)) ++ 10 ∷ []

-- a line for each register
abbrev pub registers_text : List ℕ → List ℕ
registers_text regs = flat_map (λ r. register_line r (slice_index regs r)) (range_with_len 0 (length regs))

-- the memory in lines of 16 bytes, the last of what is left
abbrev pub memory_text : List ℕ → List ℕ
memory_text memory =
    flat_map (λ row. memory_line memory (row * ROW_BYTES)) (range_with_len 0 (div_ceil (length memory) ROW_BYTES))

-- the lines of the interval, the count of instructions and pc
abbrev pub head_text : Process → List ℕ
head_text p =
    codes "interval " ++ decimal p.interval ++ 10 ∷ []
    ++ codes "count " ++ decimal p.machine.count ++ 10 ∷ []
    ++ codes "pc " ++ word_text p.machine.pc ++ 10 ∷ []

-- the line of a process
abbrev pub process_line : Cluster → List (Option CoreState) → ℕ → List ℕ
process_line cluster cores p = codes "proc " ++ name_at cluster p ++ 32 ∷ core_text (slice_get cores p) ++ 10 ∷ []

-- the lines of what is released of a process
abbrev pub released_text : BytesForm → Cluster → ManagerState → ℕ → List ℕ
released_text form cluster manager p = outputs_text form (name_at cluster p) (released_by manager p)

abbrev pub bytes_at : List HeldOutput → ℕ → List ℕ
bytes_at outputs number = (slice_index_or outputs number (record { interval = 0; bytes = [] })).bytes

-- the text of a process, as it is written
abbrev pub written_state : CoreState → List ℕ
written_state c =
    head_text c.now ++ registers_text c.now.machine.regs ++ memory_text c.now.machine.memory
    ++ codes "status " ++ status_text (status_of (move_of c)) ++ 10 ∷ []

-- how a world of n processes stands, as it is written
abbrev pub written_end : BytesForm → Cluster → ℕ → WorldState → List ℕ
written_end form cluster n w =
    codes "recovery" ++ intervals_text w.manager.recovery
    ++ flat_map (process_line cluster w.cores) (range_with_len 0 n)
    ++ flat_map (released_text form cluster w.manager) (range_with_len 0 n)

-- a line for each answer to events after which the recovery state is this where a restart is the last of them
abbrev pub answers_text : List ℕ → List Answer → List ℕ
answers_text state answers = flat_map (λ answer. answer_line answer state) answers
