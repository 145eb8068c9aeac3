-- What waits on the lane of a process until a recovery state covers it or a round cuts it, and with which event its outputs are released.
use Rattle.std.specs.Prelude.{◌≡◌, ◌≢◌, ◌<◌, ◌≤◌, ℕ, ◌==◌, Bool, true, false, not, ◌&&◌, if◌then◌else◌, nat_le, nat_lt, List, [], ◌∷◌, ◌++◌}
use Rattle.std.specs.List.{list_any}
use Rattle.om_picture.specs.Fates.{EventRow, has_ended, highest, interval_behind, is_of}
use Rattle.om_sheet.specs.Shows.{is_finished, shown}
use Rattle.om_sheet.specs.declared.shown.Shown.{Shown}
use Rattle.om_sheet.specs.declared.shown.Shown.TheVariants as shows

-- what an event left on its lane: its interval, how many new outputs it handed in, and where it stands
pub record Held : Type 0 where
  pub interval : ℕ
  pub fresh : ℕ
  pub x : ℕ

-- what was done in an interval waits with it: runs, receipts, checkpoints and messages that were sent again
abbrev pub may_wait : Shown → Bool
may_wait (shows.Run sent made ends) = true
may_wait (shows.Resend sent) = true
may_wait (shows.Receipt frame interval) = true
may_wait shows.Checkpoint = true
may_wait _ = false

-- what an event leaves on the lane of a process, behind others
abbrev pub left_by : ℕ → List EventRow → EventRow → List Held
left_by p before row =
    if is_of p row && may_wait (shown (has_ended p before) row.entry.event row.entry.answer)
    then record { interval = interval_behind p (before ++ row ∷ []); fresh = row.fresh; x = row.entry.at.x } ∷ [] else []

-- the first of these that a place in a recovery state covers, and the rest from the first one on that it does not
abbrev pub covered_by : ℕ → List Held → List Held
covered_by place [] = []
covered_by place (held ∷ more) = if nat_le held.interval place then held ∷ covered_by place more else []

abbrev pub left_behind : ℕ → List Held → List Held
left_behind place [] = []
left_behind place (held ∷ more) = if nat_le held.interval place then left_behind place more else held ∷ more

-- what waits behind an event: nothing, if a round is finished with it; else what the recovery state behind it does not cover
abbrev pub next_held : ℕ → List EventRow → List Held → EventRow → List Held
next_held p before was row =
    if is_finished row.entry.answer then [] else left_behind (highest p 0 (before ++ row ∷ [])) (was ++ left_by p before row)

abbrev pub held_from : ℕ → List EventRow → List Held → List EventRow → List Held
held_from p before was [] = was
held_from p before was (row ∷ rows) = held_from p (before ++ row ∷ []) (next_held p before was row) rows

-- what waits on the lane of a process behind these events
abbrev pub held_behind : ℕ → List EventRow → List Held
held_behind p rows = held_from p [] [] rows

-- what is held has outputs that were made elsewhere than at a place
abbrev pub is_elsewhere : ℕ → Held → Bool
is_elsewhere x held = nat_lt 0 held.fresh && not (held.x == x)

-- with an event, behind others, outputs of a process are released that were held until then: its recovery state is the first that covers
-- their interval, and all that waits before them
abbrev pub releases : ℕ → List EventRow → EventRow → Bool
releases p before row =
    list_any (is_elsewhere row.entry.at.x) (covered_by (highest p 0 (before ++ row ∷ [])) (held_behind p before ++ left_by p before row))

-- with one of these events the process handed in outputs that stand elsewhere than at a place, in an interval that does not lie beyond
-- a place of it in a recovery state
pub record WereHeld (p : ℕ) (rows : List EventRow) (x place : ℕ) : Type 0 where
  pub before : List EventRow
  pub row : EventRow
  pub after : List EventRow
  pub split : rows ≡ before ++ row ∷ after
  pub own : is_of p row ≡ true
  pub handed : 0 < row.fresh
  pub elsewhere : row.entry.at.x ≢ x
  pub within : interval_behind p (before ++ row ∷ []) ≤ place
