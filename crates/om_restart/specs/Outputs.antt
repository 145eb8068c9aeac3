-- Outputs as a store keeps them.
use Rattle.std.specs.Prelude.{◌≡◌, ℕ, List, ◌++◌}
use Rattle.std.specs.Int.{to_le_bytes, w32}
use Rattle.om_process.specs.declared.queues.Made.{Made}

-- the record of an output: four bytes of its interval, the least first, and its bytes
abbrev pub output_bytes : Made → List ℕ
output_bytes made = to_le_bytes w32 made.interval ++ made.bytes

-- the row of a table has the output's number and is its record
abbrev pub IsRowOfOutput : ℕ × List ℕ → Made → Type 0
IsRowOfOutput row made = row ≡ (made.seq, output_bytes made)
