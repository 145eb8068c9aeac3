-- A front that may be posted behind others.
use Rattle.std.specs.Prelude.{List}
use Rattle.om_board.specs.declared.front.Front.{Front}
use Rattle.om_board.specs.Fronts.{Rises, EndsWith}

-- the front is the last of the list, or rises above it
pub data MayFollow (fronts : List Front) (front : Front) : Type 0 where
  again : EndsWith fronts front → MayFollow fronts front
  above : (last : Front) → EndsWith fronts last → Rises last front → MayFollow fronts front
