-- The text of a process as it stands in an interval.
use Rattle.std.specs.Prelude.{ℕ, ◌*◌, List, [], ◌∷◌, ◌++◌, length, take, drop, slice_index, codes, decimal}
use Rattle.std.specs.Int.{div_ceil}
use Rattle.std.specs.List.{flat_map, range_with_len}
use Rattle.hex.specs.Hex.{encode_lower}
use Rattle.om_process.specs.Core.{CoreState, move_of, status_of}
use Rattle.om_world.specs.Texts.{status_text}
use Rattle.om_look.specs.Trace.{word_text}
use Rattle.om_commands.specs.declared.state_text.TheConstants.{ROW_BYTES}

-- the text of a process: where it stands, a line for each register, its memory in lines of 16 bytes, the last of what is left, and what it
-- is about to do
abbrev pub state_text : CoreState → List ℕ
state_text c =
    (codes "interval " ++ decimal c.now.interval ++ 10 ∷ []
    ++ codes "count " ++ decimal c.now.machine.count ++ 10 ∷ []
    ++ codes "pc " ++ word_text c.now.machine.pc ++ 10 ∷ [])
    ++ flat_map (λ r. codes "x" ++ decimal r ++ 32 ∷ word_text (slice_index c.now.machine.regs r) ++ 10 ∷ []) (range_with_len 0 (length c.now.machine.regs))
    ++ flat_map (λ row. word_text (row * ROW_BYTES) ++ 32 ∷ encode_lower (take ROW_BYTES (drop (row * ROW_BYTES) c.now.machine.memory)) ++ 10 ∷ [])
    (range_with_len 0 (div_ceil (length c.now.machine.memory) ROW_BYTES))
    ++ codes "status " ++ status_text (status_of (move_of c)) ++ 10 ∷ []
