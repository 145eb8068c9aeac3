-- Which marks stand for which events.
use Rattle.std.specs.Prelude.{◌≡◌, ℕ, zero, suc, ◌==◌, Bool, false, if◌then◌else◌, is_some, nat_le, nat_lt, List, [], ◌∷◌, ◌++◌, Option, None, Some}
use Rattle.std.specs.List.{flat_map, list_any, sum_by}
use Rattle.om_picture.specs.Fates.{EventAt, EventRow, Fate, fate_behind, has_ended, has_loose, highest, interval_behind, progress_behind}
use Rattle.om_picture.specs.Held.{may_wait, releases}
use Rattle.om_sheet.specs.Shows.{process_of, shown}
use Rattle.om_sheet.specs.declared.sheet.Drawn.{Drawn}
use Rattle.om_sheet.specs.declared.sheet.Glyph.{Glyph}
use Rattle.om_sheet.specs.declared.sheet.Glyph.TheVariants as glyphs
use Rattle.om_sheet.specs.declared.sheet.Shape.{Shape}
use Rattle.om_sheet.specs.declared.sheet.Spot.{Spot}
use Rattle.om_sheet.specs.declared.sheet.Title.{Title}
use Rattle.om_sheet.specs.declared.shown.Shown.{Shown}
use Rattle.om_sheet.specs.declared.shown.Shown.TheVariants as shows

abbrev pub title_entry : Title → Spot → EventAt
title_entry title at = record { line = title.line; event = title.event; answer = title.answer; at = at }

-- what is told of a form: all but where a flush begins
abbrev pub form_of : Glyph → Glyph
form_of (glyphs.Flush from) = glyphs.Flush 0
form_of glyph = glyph

-- the mark of an event: its form, whether it is drawn as cut, and of which
pub record EventMark : Type 0 where
  pub form : Glyph
  pub cut : Bool
  pub entry : EventAt

abbrev pub mark_of : Glyph → Bool → EventAt → List EventMark
mark_of form cut entry = record { form = form; cut = cut; entry = entry } ∷ []

-- the marks of events among those that are drawn
abbrev pub shape_marks : Shape → List EventMark
shape_marks shape = mark_of (form_of shape.glyph) shape.cut (title_entry shape.title shape.at)

-- what was received and is in memory only is stored, if there is such a thing
abbrev pub log_marks : Bool → EventAt → List EventMark
log_marks loose entry = if loose then mark_of (glyphs.Flush 0) false entry else []

-- the marks of an event that no round cuts; loose: its process has received something that is in memory only
abbrev pub sure_marks : Bool → Shown → EventAt → List EventMark
sure_marks loose (shows.Refused frame) entry = mark_of glyphs.Refused false entry
sure_marks loose shows.Flush entry = log_marks loose entry
sure_marks loose (shows.FlushFirst count) entry = log_marks loose entry
sure_marks loose (shows.Failure declared) entry = mark_of glyphs.Failure false entry
sure_marks loose shows.Join entry = log_marks loose entry ++ mark_of glyphs.Join false entry
sure_marks loose (shows.Back interval inc) entry = mark_of glyphs.Back false entry
sure_marks loose shows.GoesOn entry = mark_of glyphs.GoesOn false entry
sure_marks loose _ entry = []

-- outputs that a run made: their stem, and their head if it handed in new ones
abbrev pub output_marks : ℕ → ℕ → Fate → EventAt → List EventMark
output_marks made fresh fate entry =
    if made == 0 then []
    else mark_of (glyphs.Stem (fresh == 0)) fate.cut entry
    ++ (if fresh == 0 then [] else mark_of (glyphs.Head fate.covered) fate.cut entry)

-- the marks of an event that waits for its fate: a run, with the end of its program, a resend, a receipt or a checkpoint
abbrev pub fated_marks : Shown → ℕ → Fate → EventAt → List EventMark
fated_marks (shows.Run sent made ends) fresh fate entry =
    output_marks made fresh fate entry ++ mark_of (if is_some ends then glyphs.End else glyphs.Dot) fate.cut entry
fated_marks (shows.Receipt frame interval) fresh fate entry = mark_of (glyphs.Receipt fate.stored) fate.cut entry
fated_marks shows.Checkpoint fresh fate entry = mark_of glyphs.Checkpoint fate.cut entry
fated_marks _ fresh fate entry = mark_of glyphs.Dot fate.cut entry

-- the marks of an event of a process, by what it showed and what became of it: rows stand before it and behind it
abbrev pub event_marks : ℕ → List EventRow → EventRow → List EventRow → List EventMark
event_marks p before row later =
    let shows = shown (has_ended p before) row.entry.event row.entry.answer in
    let fate = fate_behind p (interval_behind p (before ++ row ∷ [])) (highest p 0 before) (progress_behind p before) (row ∷ later) in
    sure_marks (has_loose (progress_behind p before)) shows row.entry
    ++ (if may_wait shows then fated_marks shows row.fresh fate row.entry else [])

-- the marks of an event on the lane of its process, if that is one of so many
abbrev pub marks_on : ℕ → Option ℕ → List EventRow → EventRow → List EventRow → List EventMark
marks_on n None before row later = []
marks_on n (Some p) before row later = if nat_lt p n then event_marks p before row later else []

-- the window: the events from the first one on that stands on its first line or behind it
abbrev pub is_reached : ℕ → List EventRow → Bool
is_reached first rows = list_any (λ row. nat_le first row.entry.line) rows

-- on the lane of a process, in the column of an event, it is told that outputs are released with it
abbrev pub released_at : Bool → ℕ → EventAt → List EventMark
released_at told p entry = if told then mark_of glyphs.Released false (record entry { at = record { x = entry.at.x; lane = p } }) else []

-- the marks of what is released with an event, on the lanes below one
abbrev pub released_below : ℕ → List EventRow → EventRow → List EventMark
released_below zero before row = []
released_below (suc p) before row = released_below p before row ++ released_at (releases p before row) p row.entry

-- the marks of an event, if the window is reached
abbrev pub row_marks : ℕ → ℕ → List EventRow → EventRow → List EventRow → List EventMark
row_marks n first before row later =
    if is_reached first (before ++ row ∷ []) then marks_on n (process_of row.entry.event) before row later ++ released_below n before row else []

-- the marks of all these events, between others
abbrev pub marks_among : ℕ → ℕ → List EventRow → List EventRow → List EventRow → List EventMark
marks_among n first before [] later = []
marks_among n first before (row ∷ rows) later =
    row_marks n first before row (rows ++ later) ++ marks_among n first (before ++ row ∷ []) rows later

-- two lists have the same marks, each as often, in some order: whatever is counted of them, both come to the same
abbrev pub AreTheSame : List EventMark → List EventMark → Type 0
AreTheSame xs ys = (count : EventMark → ℕ) → sum_by count xs ≡ sum_by count ys

-- a picture of so many processes has the marks of the events of its window, each where its event stands and as it was in the end,
-- and no others
abbrev pub IsDrawingOf : ℕ → ℕ → List EventRow → Drawn → Type 0
IsDrawingOf n first rows drawn = AreTheSame (flat_map shape_marks drawn.marks.items) (marks_among n first [] rows [])
