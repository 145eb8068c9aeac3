-- Marks that are added to a picture, one step of its drawing at a time.
use Rattle.std.specs.Prelude.{◌≡◌, ◌≢◌, ℕ, zero, suc, ◌+◌, ◌^◌, ◌<◌, ◌≤◌, ◌==◌, Bool, true, false, not, ◌&&◌, ◌||◌, if◌then◌else◌, is_some, max, nat_le, nat_lt, List, [], ◌∷◌, ◌++◌, Option, None, Some, length, slice_index, slice_set}
use Rattle.std.specs.List.{list_any}
use Rattle.om_picture.specs.Drawing.{Edge, LaneState, Sketch, all_marks, held_in, lane_in, lane_marks, lane_of, new_lane, waiting_marks}
use Rattle.om_picture.specs.Fates.{EventAt, EventRow, Fate, Progress, cuts, has_ended, has_loose, highest, is_cut, is_saved, next_place, progress_behind, saved}
use Rattle.om_picture.specs.Marks.{AreTheSame, EventMark, fated_marks, log_marks, marks_on, released_at, sure_marks, title_entry}
use Rattle.om_picture.specs.Held.{covered_by, held_behind, is_elsewhere, left_by, left_behind, may_wait}
use Rattle.om_picture.specs.Places.{is_shown}
use Rattle.om_sheet.specs.Shows.{process_of, shown}
use Rattle.om_picture.specs.declared.column.TheConstants.{WIDEST}
use Rattle.om_picture.specs.declared.history.History.{History}
use Rattle.om_picture.specs.declared.history.Mark.{Mark}
use Rattle.om_picture.specs.declared.history.Next.{Next}
use Rattle.om_picture.specs.declared.settle.FateNow.{FateNow}
use Rattle.om_sheet.specs.declared.sheet.Glyph.{Glyph}
use Rattle.om_sheet.specs.declared.sheet.Glyph.TheVariants as glyphs
use Rattle.om_sheet.specs.declared.shown.Shown.{Shown}
use Rattle.om_sheet.specs.declared.shown.Shown.TheVariants as shows
use Rattle.om_picture.specs.declared.picture.Picture.{Picture}

-- ---- a lane
-- one mark more waits
abbrev pub IsMore : Mark → LaneState → LaneState → Type 0
IsMore mark old new = new ≡ record old { waiting = old.waiting ++ mark ∷ [] }

-- the first mark waits no more
pub record Takes (mark : Mark) (old new : LaneState) : Type 0 where
  pub was : old.waiting ≡ mark ∷ new.waiting
  pub lane : new ≡ record old { waiting = new.waiting }

pub record TakesFirst (next : Next) (old new : LaneState) : Type 0 where
  pub takes : Takes next.mark old new
  pub covered : next.covered ≡ nat_le next.mark.interval old.reached
  pub stored : next.stored ≡ nat_le next.mark.interval old.progress.safe

pub record TakesCovered (mark : Mark) (old new : LaneState) : Type 0 where
  pub takes : Takes mark old new
  pub covered : mark.interval ≤ old.reached

abbrev pub Ends : Bool → LaneState → LaneState → Type 0
Ends ended old new = new ≡ record old { ended = old.ended || ended }

abbrev pub Receives : ℕ → LaneState → LaneState → Type 0
Receives interval old new = new ≡ record old { progress = record old.progress { interval = interval } }

abbrev pub Stores : Option ℕ → LaneState → LaneState → Type 0
Stores many old new = new ≡ record old { progress = saved many old.progress }

abbrev pub GoesBack : ℕ → LaneState → LaneState → Type 0
GoesBack interval old new = new ≡ record old { progress = record { interval = interval; safe = interval }; ended = false }

abbrev pub Raises : ℕ → LaneState → LaneState → Type 0
Raises place old new = new ≡ record old { reached = max old.reached place }

-- a mark waits of an event that shows this, at a place
abbrev pub Waits : ℕ → Shown → ℕ → EventAt → LaneState → LaneState → Type 0
Waits x shown fresh entry old new =
    (mark : Mark) × IsMore mark old new × (mark.at.x ≡ x) × (mark.interval ≡ old.progress.interval) × (mark.shown ≡ shown) × (mark.fresh ≡ fresh)
    × (title_entry mark.title mark.at ≡ entry)

-- ---- a picture
-- these marks are drawn, and the lanes are as they were
pub record Settles (old new : Sketch) (more : List EventMark) : Type 0 where
  pub on : new.on ≡ old.on
  pub edge : new.edge ≡ old.edge
  pub lanes : new.lanes ≡ old.lanes
  pub drawn : new.drawn ≡ old.drawn ++ more

-- the lane of a process changes so, and nothing else
pub record Turns (Turn : LaneState → LaneState → Type 0) (old new : Sketch) (p : ℕ) : Type 0 where
  pub on : new.on ≡ old.on
  pub edge : new.edge ≡ old.edge
  pub drawn : new.drawn ≡ old.drawn
  pub within : p < length old.lanes
  pub lanes : new.lanes ≡ slice_set old.lanes p (lane_of new p)
  pub turn : Turn (lane_of old p) (lane_of new p)

-- receipts of a process are stored, and the event that does so is drawn, if there are some in memory only
pub record Logs (many : Option ℕ) (entry : EventAt) (old new : Sketch) (p : ℕ) : Type 0 where
  pub stored : Sketch
  pub turns : Turns (Stores many) old stored p
  pub settles : Settles stored new (if old.on then log_marks (has_loose (lane_of old p).progress) entry else [])

-- the window is reached, if this is a line of it
pub record ReachesWindow (old new : Sketch) (line : ℕ) : Type 0 where
  pub on : new.on ≡ (old.on || nat_le old.edge.first line)
  pub edge : new.edge ≡ old.edge
  pub drawn : new.drawn ≡ old.drawn
  pub lanes : new.lanes ≡ old.lanes

-- ---- where an event stands
-- the number of a lane, in 32 bits
abbrev pub lane_number : ℕ → ℕ
lane_number p = if nat_lt p (2 ^ 32) then p else 0

-- the next column stands at a place, right of the last one
pub record Moves (x : ℕ) (old new : Edge) : Type 0 where
  pub first : new.first ≡ old.first
  pub here : new.x ≡ x
  pub there : 0 < x
  pub behind : old.x ≤ x
  pub column : old.right + WIDEST < 2 ^ 32 → old.x < x
  pub inside : x ≤ new.right
  pub room : new.right ≤ old.right + WIDEST

-- the next column stands at a place, right of the last one, and nothing else changes
abbrev pub MovesTo : ℕ → Sketch → Sketch → Type 0
MovesTo x old new = (new ≡ record old { edge = new.edge }) × Moves x old.edge new.edge

-- an event that shows something, or not, stands at a place, 0 before the window
pub record Places (shows : Bool) (x : ℕ) (old new : Sketch) : Type 0 where
  pub on : new.on ≡ old.on
  pub drawn : new.drawn ≡ old.drawn
  pub lanes : new.lanes ≡ old.lanes
  pub first : new.edge.first ≡ old.edge.first
  pub there : (x == 0) ≡ not old.on
  pub within : x ≤ new.edge.x
  pub behind : old.edge.x ≤ new.edge.x
  pub column : old.on ≡ true → shows ≡ true → old.edge.right + WIDEST < 2 ^ 32 → old.edge.x < x
  pub inside : new.edge.x ≤ new.edge.right
  pub room : new.edge.right ≤ old.edge.right + WIDEST

-- an event of this process shows something, if there is the process
abbrev pub shows_at : Option ℕ → Sketch → EventRow → Bool
shows_at None sketch row = false
shows_at (Some p) sketch row =
    nat_lt p (length sketch.lanes) && is_shown (shown (lane_of sketch p).ended row.entry.event row.entry.answer)

-- an event stands where it says
pub record PlacesEvent (old new : Sketch) (row : EventRow) : Type 0 where
  pub places : Places (shows_at (process_of row.entry.event) old row) row.entry.at.x old new
  pub lane : (p : ℕ) → process_of row.entry.event ≡ Some p → row.entry.at.lane ≡ lane_number p

-- ---- what an event shows
abbrev pub progress_shown : Progress → Shown → Progress
progress_shown was (shows.Receipt frame interval) = record was { interval = interval }
progress_shown was shows.Flush = saved None was
progress_shown was (shows.FlushFirst count) = saved (Some count) was
progress_shown was shows.Join = saved None was
progress_shown was (shows.Back interval inc) = record { interval = interval; safe = interval }
progress_shown was _ = was

abbrev pub ended_shown : Bool → Shown → Bool
ended_shown was (shows.Run sent made ends) = was || is_some ends
ended_shown was (shows.Back interval inc) = false
ended_shown was _ = was

-- the marks of an event that waits, if it does
abbrev pub fated_if : Shown → ℕ → Fate → EventAt → List EventMark
fated_if shown fresh fate entry = if may_wait shown then fated_marks shown fresh fate entry else []

-- what the lane of its process is behind it, and what its marks come to: the new one among them
pub record LaneShows (on : Bool) (shown : Shown) (fresh : ℕ) (entry : EventAt) (old new : LaneState) : Type 0 where
  pub progress : new.progress ≡ progress_shown old.progress shown
  pub ended : new.ended ≡ ended_shown old.ended shown
  pub reached : new.reached ≡ old.reached
  pub held : held_in new
      ≡ held_in old ++ (if may_wait shown then record { interval = new.progress.interval; fresh = fresh; x = entry.at.x } ∷ [] else [])
  pub waits : (fate : ℕ → Fate) → waiting_marks fate new.waiting
      ≡ waiting_marks fate old.waiting ++ (if on then fated_if shown fresh (fate new.progress.interval) entry else [])

-- an event of a process shows this
pub record Shows (old new : Sketch) (p : ℕ) (shown : Shown) (fresh : ℕ) (entry : EventAt) : Type 0 where
  pub on : new.on ≡ old.on
  pub edge : new.edge ≡ old.edge
  pub drawn : new.drawn ≡ old.drawn ++ (if old.on then sure_marks (has_loose (lane_of old p).progress) shown entry else [])
  pub within : p < length old.lanes
  pub lanes : new.lanes ≡ slice_set old.lanes p (lane_of new p)
  pub lane : LaneShows old.on shown fresh entry (lane_of old p) (lane_of new p)

-- an event of this process shows what its answer says, if there is the process
pub record ShowsAt (p : ℕ) (old new : Sketch) (row : EventRow) : Type 0 where
  pub shows : p < length old.lanes → Shows old new p (shown (lane_of old p).ended row.entry.event row.entry.answer) row.fresh row.entry
  pub past : length old.lanes ≤ p → new ≡ old

abbrev pub ShowsOn : Option ℕ → Sketch → Sketch → EventRow → Type 0
ShowsOn None old new row = new ≡ old
ShowsOn (Some p) old new row = ShowsAt p old new row

abbrev pub ShowsEvent : Sketch → Sketch → EventRow → Type 0
ShowsEvent old new row = ShowsOn (process_of row.entry.event) old new row

-- ---- what waits
-- the fate of an interval, where only the recovery state and the round of this event are still to come, and all behind it
abbrev pub fate_amid : EventRow → List EventRow → ℕ → ℕ → ℕ → Progress → Fate
fate_amid row later p interval place now =
    let cut_now = cuts interval (next_place p place row) row in
    let cut = cut_now || is_cut p interval (next_place p place row) later in
    let covered = not cut && nat_le interval (highest p (next_place p place row) later) in
    record {
      cut = cut;
      covered = covered;
      stored = covered || (if cut_now then nat_le interval now.safe else is_saved p interval (next_place p place row) now later);
    }

abbrev pub amid_marks : EventRow → List EventRow → ℕ → LaneState → List EventMark
amid_marks row later p lane = waiting_marks (λ interval. fate_amid row later p interval lane.reached lane.progress) lane.waiting

-- the fate of what is settled now: covered; or else cut, where a round is finished
abbrev pub fate_now : Bool → Bool → Bool → Fate
fate_now finished covered stored = record { cut = finished && not covered; covered = covered; stored = covered || stored }

abbrev pub now_marks : Bool → ℕ → LaneState → List EventMark
now_marks finished p lane =
    waiting_marks (λ interval. fate_now finished (nat_le interval lane.reached) (nat_le interval lane.progress.safe)) lane.waiting

-- a recovery state covers it
abbrev pub kept : Fate
kept = record { cut = false; covered = true; stored = true }

-- a fate, and what a mark that waits says by it
abbrev pub fate_in : FateNow → Fate
fate_in fate = record { cut = fate.cut; covered = fate.covered; stored = fate.stored }

abbrev pub form_late : Shown → Fate → Glyph
form_late (shows.Receipt frame interval) fate = glyphs.Receipt fate.stored
form_late shows.Checkpoint fate = glyphs.Checkpoint
form_late (shows.Run sent made ends) fate = if is_some ends then glyphs.End else glyphs.Dot
form_late _ fate = glyphs.Dot

abbrev pub made_by : Shown → ℕ
made_by (shows.Run sent made ends) = made
made_by _ = 0

-- what is known of a process stays
pub record Stays (old new : LaneState) : Type 0 where
  pub progress : new.progress ≡ old.progress
  pub ended : new.ended ≡ old.ended
  pub reached : new.reached ≡ old.reached

-- what is known of a process stays, but for its place in a recovery state, which is told
pub record TellsPlace (place : ℕ) (old new : LaneState) : Type 0 where
  pub progress : new.progress ≡ old.progress
  pub ended : new.ended ≡ old.ended
  pub reached : new.reached ≡ max old.reached place

-- the place of a process in a recovery state is told, and what that covers waits no more
pub record Learns (place : ℕ) (old new : LaneState) : Type 0 where
  pub told : TellsPlace place old new
  pub held : held_in new ≡ left_behind new.reached (held_in old)

-- all marks come to the same
pub record KeepsMarks (value : ℕ → LaneState → List EventMark) (old new : Sketch) : Type 0 where
  pub on : new.on ≡ old.on
  pub edge : new.edge ≡ old.edge
  pub count : length new.lanes ≡ length old.lanes
  pub marks : AreTheSame (all_marks value new) (all_marks value old)

-- all marks come to the same, and to some more
pub record KeepsWith (more : List EventMark) (value : ℕ → LaneState → List EventMark) (old new : Sketch) : Type 0 where
  pub on : new.on ≡ old.on
  pub edge : new.edge ≡ old.edge
  pub count : length new.lanes ≡ length old.lanes
  pub marks : AreTheSame (all_marks value new) (all_marks value old ++ more)

-- outputs are released that a lane holds, with this event
abbrev pub frees : EventRow → ℕ → LaneState → Bool
frees row p lane = list_any (is_elsewhere row.entry.at.x) (covered_by (next_place p lane.reached row) (held_in lane))

-- so it is told on the lanes below one
abbrev pub freed_below : EventRow → Sketch → ℕ → List EventMark
freed_below row old zero = []
freed_below row old (suc p) =
    freed_below row old p ++ (if old.on then released_at (frees row p (lane_of old p)) (lane_number p) row.entry else [])

-- a lane is learning its place: what waits first goes while that covers it; found: there were outputs among that from elsewhere
pub record Learning (row : EventRow) (found : Bool) (old new : Sketch) (p : ℕ) : Type 0 where
  pub keeps : (later : List EventRow) → KeepsMarks (amid_marks row later) old new
  pub here : TellsPlace (slice_index row.recovery p) (lane_of old p) (lane_of new p)
  pub left : left_behind (lane_of new p).reached (held_in (lane_of old p)) ≡ left_behind (lane_of new p).reached (held_in (lane_of new p))
  pub freed : list_any (is_elsewhere row.entry.at.x) (covered_by (lane_of new p).reached (held_in (lane_of old p)))
      ≡ (found || list_any (is_elsewhere row.entry.at.x) (covered_by (lane_of new p).reached (held_in (lane_of new p))))
  pub others : (q : ℕ) → q ≢ p → lane_of new q ≡ lane_of old q

-- a lane learns its place in a recovery state
pub record LearnsAt (row : EventRow) (old new : Sketch) (p : ℕ) : Type 0 where
  pub keeps : (later : List EventRow) → KeepsMarks (amid_marks row later) old new
  pub here : Learns (slice_index row.recovery p) (lane_of old p) (lane_of new p)
  pub others : (q : ℕ) → q ≢ p → lane_of new q ≡ lane_of old q

-- the lanes below one do, and the others are as they were
pub record LearnsBelow (row : EventRow) (old new : Sketch) (p : ℕ) : Type 0 where
  pub keeps : (later : List EventRow) → KeepsWith (freed_below row old p) (amid_marks row later) old new
  pub learned : (q : ℕ) → q < p → Learns (slice_index row.recovery q) (lane_of old q) (lane_of new q)
  pub others : (q : ℕ) → p ≤ q → lane_of new q ≡ lane_of old q

-- all lanes learn of their places in the recovery state
pub record LearnsAll (row : EventRow) (old new : Sketch) : Type 0 where
  pub keeps : (later : List EventRow) → KeepsWith (freed_below row old (length old.lanes)) (amid_marks row later) old new
  pub lanes : (p : ℕ) → p < length old.lanes → Learns (slice_index row.recovery p) (lane_of old p) (lane_of new p)

-- some of what waits on a lane is settled
pub record SettlesSome (finished : Bool) (old new : Sketch) (p : ℕ) : Type 0 where
  pub keeps : KeepsMarks (now_marks finished) old new
  pub here : Stays (lane_of old p) (lane_of new p)
  pub others : (q : ℕ) → q ≢ p → lane_of new q ≡ lane_of old q

-- all that waits on a lane is settled
pub record SettlesLane (finished : Bool) (old new : Sketch) (p : ℕ) : Type 0 where
  pub some : SettlesSome finished old new p
  pub empty : (lane_of new p).waiting ≡ []

-- all that waits on the lanes below one is settled
pub record SettlesBelow (finished : Bool) (old new : Sketch) (p : ℕ) : Type 0 where
  pub keeps : KeepsMarks (now_marks finished) old new
  pub lanes : (q : ℕ) → Stays (lane_of old q) (lane_of new q)
  pub empty : (q : ℕ) → q < p → (lane_of new q).waiting ≡ []

-- all that waits on any lane is settled
pub record SettlesAll (finished : Bool) (old new : Sketch) : Type 0 where
  pub keeps : KeepsMarks (now_marks finished) old new
  pub lanes : (p : ℕ) → Stays (lane_of old p) (lane_of new p)
  pub empty : (p : ℕ) → p < length old.lanes → (lane_of new p).waiting ≡ []

-- what waits is settled, if a round is finished, and else nothing changes
abbrev pub SettlesIf : Bool → Sketch → Sketch → Type 0
SettlesIf false old new = new ≡ old
SettlesIf true old new = SettlesAll true old new

-- a picture of these events, once the next one is drawn, where its recovery state and its round are not told
pub record IsAmid (n : ℕ) (before : List EventRow) (row : EventRow) (old new : Sketch) : Type 0 where
  pub on : new.on ≡ old.on
  pub edge : new.edge ≡ old.edge
  pub count : length new.lanes ≡ n
  pub progress : (p : ℕ) → p < n → (lane_of new p).progress ≡ progress_behind p (before ++ row ∷ [])
  pub ended : (p : ℕ) → p < n → (lane_of new p).ended ≡ has_ended p (before ++ row ∷ [])
  pub held : (p : ℕ) → p < n → held_in (lane_of new p) ≡ held_behind p before ++ left_by p before row
  pub reached : (p : ℕ) → p < n → (lane_of new p).reached ≡ highest p 0 before
  pub marks : (later : List EventRow) → AreTheSame (all_marks (amid_marks row later) new)
      (all_marks (lane_marks (row ∷ later)) old
      ++ (if old.on then marks_on n (process_of row.entry.event) before row later else []))

-- nothing is known of these lanes
abbrev pub AreNew : List History → Type 0
AreNew [] = Unit {0}
AreNew (history ∷ histories) = (lane_in history ≡ new_lane) × AreNew histories

-- the process has a history
abbrev pub HasHistory : Picture → ℕ → Type 0
HasHistory picture p = p < length picture.histories.items
