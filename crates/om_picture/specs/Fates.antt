-- Events of a script, and what becomes of what they did: what a round cuts, what is stored, what is released.
use Rattle.std.specs.Prelude.{◌≡◌, ◌⊎◌, ℕ, ◌+◌, ◌<◌, ◌≤◌, ◌==◌, Bool, true, false, not, ◌&&◌, ◌||◌, if◌then◌else◌, is_some, max, min, nat_le, nat_lt, List, [], ◌∷◌, ◌++◌, Option, None, Some, slice_index}
use Rattle.std.specs.List.{fold}
use Rattle.std.specs.Option.{option_map_or}
use Rattle.om_process.specs.declared.accept.Accept.TheVariants as accepts
use Rattle.om_world.specs.declared.event.Answer.{Answer}
use Rattle.om_world.specs.declared.event.Answer.TheVariants as answers
use Rattle.om_world.specs.declared.event.Event.{Event}
use Rattle.om_world.specs.declared.event.Event.TheVariants as events
use Rattle.om_sheet.specs.Shows.{end_of, is_finished, process_of}
use Rattle.om_sheet.specs.declared.sheet.Spot.{Spot}
use Rattle.om_sheet.specs.declared.step.PlayedEvent.{PlayedEvent}

-- an event of a script, the number of its line, its answer, and where it stands in a picture
pub record EventAt : Type 0 where
  pub line : ℕ
  pub event : Event
  pub answer : Answer
  pub at : Spot

-- an event of a script with its place, how many new outputs it handed in, and the recovery state behind it
pub record EventRow : Type 0 where
  pub entry : EventAt
  pub fresh : ℕ
  pub recovery : List ℕ

abbrev pub step_entry : PlayedEvent → Spot → EventAt
step_entry step at = record { line = step.line; event = step.event; answer = step.answer; at = at }

abbrev pub step_row : PlayedEvent → Spot → EventRow
step_row step at = record { entry = step_entry step at; fresh = step.fresh; recovery = step.recovery }

-- the event is one of this process
abbrev pub is_of : ℕ → EventRow → Bool
is_of p row = option_map_or (λ q. q == p) (process_of row.entry.event) false

-- ---- a process
-- how far a process is: its interval, and the last one up to which all that it received is in its store
pub record Progress : Type 0 where
  pub interval : ℕ
  pub safe : ℕ

-- a process stores what it has in memory only: all of it, or so many receipts from its front
abbrev pub saved : Option ℕ → Progress → Progress
saved None was = record was { safe = was.interval }
saved (Some count) was = record was { safe = min was.interval (was.safe + count) }

-- how far an event leaves its process; one that is back has what it was replayed from in its store
abbrev pub progress_after : Event → Answer → Progress → Progress
progress_after (events.Give process frame) (answers.Given (accepts.Taken interval)) was = record was { interval = interval }
progress_after (events.Flush process) (answers.Noted count) was = if count == 0 then was else saved None was
progress_after (events.FlushFirst process many) (answers.Noted count) was = if (count == 0) || (many == 0) then was else saved (Some many) was
progress_after (events.Join process) (answers.Gathered gathered) was = saved None was
progress_after (events.Resume process) (answers.Back interval inc) was = record { interval = interval; safe = interval }
progress_after _ _ was = was

abbrev pub next_progress : ℕ → Progress → EventRow → Progress
next_progress p was row = if is_of p row then progress_after row.entry.event row.entry.answer was else was

-- how far a process is behind these events
abbrev pub progress_behind : ℕ → List EventRow → Progress
progress_behind p rows = fold (next_progress p) (record { interval = 0; safe = 0 }) rows

abbrev pub interval_behind : ℕ → List EventRow → ℕ
interval_behind p rows = (progress_behind p rows).interval

-- a process has received something that is in memory only
abbrev pub has_loose : Progress → Bool
has_loose progress = nat_lt progress.safe progress.interval

-- whether it is known behind an event that the program of its process came to its end
abbrev pub ended_after : Event → Answer → Bool → Bool
ended_after (events.Run process fuel) (answers.Ran steps status sent made) was = was || is_some (end_of status)
ended_after (events.Resume process) (answers.Back interval inc) was = false
ended_after _ _ was = was

abbrev pub next_ended : ℕ → Bool → EventRow → Bool
next_ended p was row = if is_of p row then ended_after row.entry.event row.entry.answer was else was

-- the program of a process came to its end in these events, and the process did not go back since
abbrev pub has_ended : ℕ → List EventRow → Bool
has_ended p rows = fold (next_ended p) false rows

-- ---- what becomes of an interval
-- the place of a process in the recovery state behind an event, or a higher one that was there before
abbrev pub next_place : ℕ → ℕ → EventRow → ℕ
next_place p was row = max was (slice_index row.recovery p)

-- the highest place of a process in the recovery states behind these events, from one on
abbrev pub highest : ℕ → ℕ → List EventRow → ℕ
highest p was rows = fold (next_place p) was rows

-- a round that is finished with this event cuts the interval: no recovery state has covered it, up to this place
abbrev pub cuts : ℕ → ℕ → EventRow → Bool
cuts interval place row = is_finished row.entry.answer && not (nat_le interval place)

-- one of these events cuts what stands at an interval
abbrev pub is_cut : ℕ → ℕ → ℕ → List EventRow → Bool
is_cut p interval was [] = false
is_cut p interval was (row ∷ rows) = cuts interval (next_place p was row) row || is_cut p interval (next_place p was row) rows

-- the process had stored all that it received up to an interval, as a round cut that, or in the end
abbrev pub is_saved : ℕ → ℕ → ℕ → Progress → List EventRow → Bool
is_saved p interval place was [] = nat_le interval was.safe
is_saved p interval place was (row ∷ rows) =
    if cuts interval (next_place p place row) row then nat_le interval (next_progress p was row).safe
    else is_saved p interval (next_place p place row) (next_progress p was row) rows

-- what became of an interval of a process
pub record Fate : Type 0 where
  -- a round cut it
  pub cut : Bool
  -- it was not cut, and a recovery state covers it: its outputs are released
  pub covered : Bool
  -- a recovery state covers it, or its process had stored it
  pub stored : Bool

-- the fate of an interval behind these events, where no place was higher than one, and the process was so far
abbrev pub fate_behind : ℕ → ℕ → ℕ → Progress → List EventRow → Fate
fate_behind p interval place was rows =
    let cut = is_cut p interval place rows in
    let covered = not cut && nat_le interval (highest p place rows) in
    record { cut = cut; covered = covered; stored = covered || is_saved p interval place was rows }

-- ---- the same, told by the event that did it
-- a round is finished with one of these events, and no recovery state up to it had the process as high
pub record IsCutBy (p interval was : ℕ) (rows : List EventRow) : Type 0 where
  pub before : List EventRow
  pub row : EventRow
  pub after : List EventRow
  pub split : rows ≡ before ++ row ∷ after
  pub finished : is_finished row.entry.answer ≡ true
  pub beyond : highest p was (before ++ row ∷ []) < interval

-- a round cuts the interval with the last of these events, and none before
pub record IsCutWith (p interval place : ℕ) (rows : List EventRow) : Type 0 where
  pub before : List EventRow
  pub row : EventRow
  pub split : rows ≡ before ++ row ∷ []
  pub not_cut : is_cut p interval place before ≡ false
  pub cut : is_cut p interval place rows ≡ true

-- the first of these events are all of them, and no round cuts the interval, or a round cuts it with the last of the first; behind these
-- the process has stored all that it received up to the interval
pub record IsSavedBy (p interval place : ℕ) (was : Progress) (rows : List EventRow) : Type 0 where
  pub first : List EventRow
  pub after : List EventRow
  pub split : rows ≡ first ++ after
  pub ends : ((after ≡ []) × (is_cut p interval place first ≡ false)) ⊎ IsCutWith p interval place first
  pub safe : interval ≤ (fold (next_progress p) was first).safe
