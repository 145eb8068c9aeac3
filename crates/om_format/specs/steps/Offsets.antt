-- Where the parts of a checkpoint of n processes begin, behind the dependency vector.
use Rattle.std.specs.Prelude.{ℕ, ◌+◌, ◌*◌}
use Rattle.om_format.specs.declared.offsets.TheConstants.{VECTOR}

-- the numbers got
abbrev pub got_offset : ℕ → ℕ
got_offset n = VECTOR + 4 * n

-- the number of outputs made
abbrev pub made_offset : ℕ → ℕ
made_offset n = got_offset n + 8 * n

-- the size of the memory
abbrev pub size_offset : ℕ → ℕ
size_offset n = made_offset n + 8

-- the memory
abbrev pub memory_offset : ℕ → ℕ
memory_offset n = size_offset n + 4
