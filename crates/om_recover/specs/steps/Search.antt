-- What the steps of the search and of a note promise.
use Rattle.std.specs.Prelude.{◌≡◌, ℕ, ◌<◌, ◌≤◌, Result, Ok, Err}
use Rattle.om_recover.specs.Rows.{Rows, HasRow, IsAtMost}
use Rattle.om_recover.specs.Offered.{offered}
use Rattle.om_recover.specs.steps.Beside.{IsNearestBelow}
use Rattle.om_recover.specs.declared.row.Row.{Row}
use Rattle.om_recover.specs.declared.note.Note.{Note}
use Rattle.om_recover.specs.declared.note.Note.TheVariants.{Noted, Known}
use Rattle.om_recover.specs.declared.note.NoteError.{NoteError}

-- the answer is no note of a new row
abbrev pub IsQuiet : Result Note NoteError → Type 0
IsQuiet (Ok (Noted raised)) = ⊥
IsQuiet (Ok Known) = Unit {0}
IsQuiet (Err fault) = Unit {0}

-- the process of the row has no row below it
abbrev pub HasNoRowBelow : Rows → Row → Type 0
HasNoRowBelow rows row = (low : Row) → HasRow rows low → low.pid ≡ row.pid → low.interval < row.interval → ⊥

-- the process of the row has no row above it
abbrev pub HasNoRowAbove : Rows → Row → Type 0
HasNoRowAbove rows row = (high : Row) → HasRow rows high → high.pid ≡ row.pid → row.interval < high.interval → ⊥

-- the process of the row has no row at its interval or above
abbrev pub HasNoRowFrom : Rows → Row → Type 0
HasNoRowFrom rows row = (high : Row) → HasRow rows high → high.pid ≡ row.pid → row.interval ≤ high.interval → ⊥

-- the row has that answer, and is not added
abbrev pub IsAnswered : ℕ → Rows → Row → Result Note NoteError → Type 0
IsAnswered n rows row answer = offered n rows row answer rows

-- the nearest of the process's rows below has at most the row's vectors
pub record FollowsRow (rows : Rows) (row : Row) : Type 0 where
  pub low : Row
  pub nearest : IsNearestBelow rows row low
  pub at_most : IsAtMost low row
