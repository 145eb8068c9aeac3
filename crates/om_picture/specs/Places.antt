-- Where events stand in a picture: in their order from left to right, each on the lane of its process.
use Rattle.std.specs.Prelude.{◌≡◌, ℕ, ◌<◌, ◌&&◌, Bool, true, false, max, nat_lt, List, [], ◌∷◌, ◌++◌, Option, None, Some, length}
use Rattle.om_picture.specs.Fates.{EventRow, has_ended}
use Rattle.om_picture.specs.Marks.{is_reached}
use Rattle.om_sheet.specs.Shows.{process_of, shown}
use Rattle.om_picture.specs.declared.column.TheConstants.{MOST_COLUMNS}
use Rattle.om_sheet.specs.declared.shown.Shown.{Shown}
use Rattle.om_sheet.specs.declared.shown.Shown.TheVariants as shows

abbrev pub is_shown : Shown → Bool
is_shown shows.Nothing = false
is_shown _ = true

-- an event shows something on the lane of its process, one of so many
abbrev pub shows_on : ℕ → Option ℕ → List EventRow → EventRow → Bool
shows_on n None before row = false
shows_on n (Some p) before row = nat_lt p n && is_shown (shown (has_ended p before) row.entry.event row.entry.answer)

-- an event shows something in the window, and so has a column of its own
abbrev pub has_column : ℕ → ℕ → List EventRow → EventRow → Bool
has_column n first before row = is_reached first (before ++ row ∷ []) && shows_on n (process_of row.entry.event) before row

-- the place that is furthest right of those of events
abbrev pub rightmost : List EventRow → ℕ
rightmost [] = 0
rightmost (row ∷ rows) = max row.entry.at.x (rightmost rows)

-- where an event stands, behind others: on the lane of its process, if that is one of so many; and right of all of them, if it has a
-- column and they are not too many for numbers of 32 bits
pub record IsPlacedBehind (n first : ℕ) (before : List EventRow) (row : EventRow) : Type 0 where
  pub lane : (p : ℕ) → process_of row.entry.event ≡ Some p → p < n → row.entry.at.lane ≡ p
  pub column : length before < MOST_COLUMNS → has_column n first before row ≡ true → rightmost before < row.entry.at.x

-- all these events, behind others
abbrev pub ArePlaced : ℕ → ℕ → List EventRow → List EventRow → Type 0
ArePlaced n first before [] = Unit {0}
ArePlaced n first before (row ∷ rows) = IsPlacedBehind n first before row × ArePlaced n first (before ++ row ∷ []) rows
