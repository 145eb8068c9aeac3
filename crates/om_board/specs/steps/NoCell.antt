-- The name of no cell.
use Rattle.std.specs.Prelude.{[]}
use Rattle.om_board.specs.CellNames.{CellName}

abbrev pub no_cell : CellName
no_cell = record { table = record { words = 0; slots = 0; views_name = 0; atom = 0; block = 0; offset = 0; slot_names = [] }; n = 0 }
