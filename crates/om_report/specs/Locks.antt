-- What is done with the board, from when its lock is had to when the lock goes.
use Rattle.std.specs.Prelude.{ℕ}
use Rattle.om_board.specs.Boards.{BoardState, IsBoard}

-- between a board of n processes as its lock was had and as the lock went, this was done
abbrev pub UnderLock : ℕ → (BoardState → BoardState → Type 0) → Type 0
UnderLock n Did = (before after : BoardState) × IsBoard n before × Did before after
