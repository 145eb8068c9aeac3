-- What processes tell of their waiting.
use Rattle.std.specs.Prelude.{ℕ, Bool, true, false}
use Rattle.om_board.specs.declared.waiting.Waiting.{Waiting}
use Rattle.om_board.specs.declared.waiting.Waiting.TheVariants.{Waits}

-- whether a process of which this is known waits
abbrev pub waits : Waiting → Bool
waits (Waits put taken) = true
waits _ = false

-- how many messages a process that waits has put
abbrev pub put_by : Waiting → ℕ
put_by (Waits put taken) = put
put_by _ = 0

-- how many it has taken
abbrev pub taken_by : Waiting → ℕ
taken_by (Waits put taken) = taken
taken_by _ = 0
