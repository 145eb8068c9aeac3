-- A picture that is being drawn: which marks it has, drawn or waiting.
use Rattle.std.specs.Prelude.{◌≡◌, ℕ, suc, ◌+◌, ◌*◌, ◌<◌, ◌≤◌, ◌==◌, Bool, false, if◌then◌else◌, List, [], ◌∷◌, ◌++◌, drop, length, map, slice_index_or}
use Rattle.std.specs.List.{flat_map}
use Rattle.om_picture.specs.Fates.{EventRow, Fate, Progress, fate_behind, has_ended, highest, progress_behind}
use Rattle.om_picture.specs.Held.{Held, held_behind}
use Rattle.om_picture.specs.Marks.{AreTheSame, EventMark, fated_marks, is_reached, marks_among, shape_marks, title_entry}
use Rattle.om_interval.specs.declared.pid.TheConstants.{MAX_PROCESSES}
use Rattle.om_picture.specs.Places.{ArePlaced, rightmost}
use Rattle.om_picture.specs.declared.column.TheConstants.{MOST_LEFT, WIDEST}
use Rattle.om_picture.specs.declared.history.History.{History}
use Rattle.om_picture.specs.declared.history.Mark.{Mark}
use Rattle.om_picture.specs.declared.picture.Picture.{Picture}

-- what a mark that waits comes to; one from before the window is not drawn
abbrev pub mark_marks : Mark → Fate → List EventMark
mark_marks mark fate = if mark.at.x == 0 then [] else fated_marks mark.shown mark.fresh fate (title_entry mark.title mark.at)

-- marks that wait, each with the fate of its interval
abbrev pub waiting_marks : (ℕ → Fate) → List Mark → List EventMark
waiting_marks fate marks = flat_map (λ mark. mark_marks mark (fate mark.interval)) marks

-- what is known of a process: how far it is, whether its program ended, the highest place that it had in a recovery state, and the marks
-- that wait
pub record LaneState : Type 0 where
  pub progress : Progress
  pub ended : Bool
  pub reached : ℕ
  pub waiting : List Mark

abbrev pub new_lane : LaneState
new_lane = record { progress = record { interval = 0; safe = 0 }; ended = false; reached = 0; waiting = [] }

abbrev pub lane_in : History → LaneState
lane_in history = record {
  progress = record { interval = history.interval; safe = history.safe };
  ended = history.ended;
  reached = history.reached;
  waiting = drop history.settled history.marks.items;
}

-- the first line of the window, where the last column stands, and its right side
pub record Edge : Type 0 where
  pub first : ℕ
  pub x : ℕ
  pub right : ℕ

-- what a mark that waits holds, and a lane
abbrev pub held_of : Mark → Held
held_of mark = record { interval = mark.interval; fresh = mark.fresh; x = mark.at.x }

abbrev pub held_in : LaneState → List Held
held_in lane = map held_of lane.waiting

-- whether the window is reached, its edges, the marks of events that are drawn, and the lanes
pub record Sketch : Type 0 where
  pub on : Bool
  pub edge : Edge
  pub drawn : List EventMark
  pub lanes : List LaneState

abbrev pub sketch_of : Picture → Sketch
sketch_of picture = record {
  on = picture.on;
  edge = record { first = picture.first; x = picture.columns.x; right = picture.columns.right };
  drawn = flat_map shape_marks picture.marks.items;
  lanes = map lane_in picture.histories.items;
}

-- what the marks of lanes come to, of which the first is of this process
abbrev pub lanes_marks : (ℕ → LaneState → List EventMark) → ℕ → List LaneState → List EventMark
lanes_marks marks p [] = []
lanes_marks marks p (lane ∷ lanes) = marks p lane ++ lanes_marks marks (suc p) lanes

-- all marks, those that are drawn and what those come to that wait
unfoldable pub all_marks : (ℕ → LaneState → List EventMark) → Sketch → List EventMark
all_marks marks sketch = sketch.drawn ++ lanes_marks marks 0 sketch.lanes

-- what the marks that wait on a lane come to with these events
abbrev pub lane_marks : List EventRow → ℕ → LaneState → List EventMark
lane_marks later p lane = waiting_marks (λ interval. fate_behind p interval lane.reached lane.progress later) lane.waiting

abbrev pub lane_of : Sketch → ℕ → LaneState
lane_of sketch p = slice_index_or sketch.lanes p new_lane

-- what is known of a process behind these events
pub record IsLaneOf (p : ℕ) (rows : List EventRow) (lane : LaneState) : Type 0 where
  pub progress : lane.progress ≡ progress_behind p rows
  pub ended : lane.ended ≡ has_ended p rows
  pub held : held_in lane ≡ held_behind p rows
  pub reached : lane.reached ≡ highest p 0 rows

-- a picture of so many processes and of these events, whose window begins at a line: whatever comes behind them, its marks come
-- to those of the events
pub record IsSketchOf (n first : ℕ) (rows : List EventRow) (sketch : Sketch) : Type 0 where
  pub on : sketch.on ≡ is_reached first rows
  pub first_line : sketch.edge.first ≡ first
  pub count : length sketch.lanes ≡ n
  pub lanes : (p : ℕ) → p < n → IsLaneOf p rows (lane_of sketch p)
  pub marks : (later : List EventRow) → AreTheSame (all_marks (lane_marks later) sketch) (marks_among n first [] rows later)
  -- where they stand, and how far right that is
  pub few : n ≤ MAX_PROCESSES
  pub placed : ArePlaced n first [] rows
  pub behind : rightmost rows ≤ sketch.edge.x
  pub inside : sketch.edge.x ≤ sketch.edge.right
  pub room : sketch.edge.right ≤ MOST_LEFT + WIDEST * length rows
