-- How the inboxes of a cluster are made, row by row.
use Rattle.std.specs.Prelude.{◌≡◌, ℕ, zero, suc, List, [], ◌∷◌, ◌++◌, Some, Vec, length, map, slice_get}
use Rattle.std.specs.declared.alloc.Global.{Global}
use Rattle.om_board.specs.Inboxes.{Line, Traffic, Takings}
use Rattle.om_links.specs.declared.network.Ends.{Ends}
use Rattle.om_links.specs.Network.{Lines}

-- the inboxes of passes to put, and to take
abbrev pub lines_put : List Traffic → List Line
lines_put puts = map (λ p. p.line) puts

abbrev pub lines_taken : List Takings → List Line
lines_taken takes = map (λ t. t.line) takes

-- the inboxes of the passes to put of each process
abbrev pub all_put : List Ends → List (List Line)
all_put ends = map (λ e. lines_put e.puts.items) ends

abbrev pub all_taken : List Ends → List (List Line)
all_taken ends = map (λ e. lines_taken e.takes.items) ends

-- one list with one more at its end
abbrev pub grown_at : List (List Line) → ℕ → Line → List (List Line)
grown_at [] i line = []
grown_at (xs ∷ xss) zero line = (xs ++ line ∷ []) ∷ xss
grown_at (xs ∷ xss) (suc i) line = xs ∷ grown_at xss i line

-- each list with one more at its end, as far as there are any
abbrev pub with_row : List (List Line) → List Line → List (List Line)
with_row [] row = []
with_row (xs ∷ xss) [] = xs ∷ xss
with_row (xs ∷ xss) (line ∷ row) = (xs ++ line ∷ []) ∷ with_row xss row

-- row after row
abbrev pub with_rows : List (List Line) → Lines → List (List Line)
with_rows xss [] = xss
with_rows xss (row ∷ rows) = with_rows (with_row xss row.items) rows

-- the inboxes of one sender, by receiver
pub record IsRow (from : ℕ) (row : List Line) : Type 0 where
  pub from_is : (to : ℕ) (line : Line) → slice_get row to ≡ Some line → line.from ≡ from
  pub to_is : (to : ℕ) (line : Line) → slice_get row to ≡ Some line → line.to ≡ to

-- the rows of so many receivers
pub record AreRows (n : ℕ) (rows : Lines) : Type 0 where
  pub long : (from : ℕ) (row : Vec Line Global) → slice_get rows from ≡ Some row → length row.items ≡ n
  pub pairs : (from : ℕ) (row : Vec Line Global) → slice_get rows from ≡ Some row → IsRow from row.items

-- the first senders have their passes to put
abbrev pub HavePuts : Lines → List Ends → Type 0
HavePuts rows ends = (p : ℕ) (row : Vec Line Global) (e : Ends) → slice_get rows p ≡ Some row → slice_get ends p ≡ Some e
    → lines_put e.puts.items ≡ row.items
