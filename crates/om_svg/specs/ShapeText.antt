-- The elements of a picture: bands, pieces of lanes, lines across them, recovery lines and marks.
use Rattle.std.specs.Prelude.{ℕ, ◌+◌, ◌-◌, ◌*◌, ◌%◌, ◌==◌, Bool, true, false, if◌then◌else◌, List, [], ◌∷◌, ◌++◌, Option, codes, decimal}
use Rattle.std.specs.Option.{option_map_or}
use Rattle.std.specs.List.{flat_map}
use Rattle.om_svg.specs.AnswerText.{recovery_text}
use Rattle.om_world.specs.Texts.{answer_text, event_text}
use Rattle.om_sheet.specs.declared.sheet.Band.{Band}
use Rattle.om_sheet.specs.declared.sheet.LineKind.{LineKind}
use Rattle.om_sheet.specs.declared.sheet.LineKind.TheVariants as line_kinds
use Rattle.om_sheet.specs.declared.sheet.Crossing.{Crossing}
use Rattle.om_sheet.specs.declared.sheet.Glyph.{Glyph}
use Rattle.om_sheet.specs.declared.sheet.Glyph.TheVariants as glyphs
use Rattle.om_sheet.specs.declared.sheet.TitleDetail.{TitleDetail}
use Rattle.om_sheet.specs.declared.sheet.TitleDetail.TheVariants as details
use Rattle.om_sheet.specs.declared.sheet.Numbers.{Numbers}
use Rattle.om_sheet.specs.declared.sheet.LaneSegment.{LaneSegment}
use Rattle.om_sheet.specs.declared.sheet.LaneSegment.TheVariants as segments
use Rattle.om_sheet.specs.declared.sheet.Shape.{Shape}
use Rattle.om_sheet.specs.declared.sheet.Spot.{Spot}
use Rattle.om_sheet.specs.declared.sheet.SegmentKind.{SegmentKind}
use Rattle.om_sheet.specs.declared.sheet.SegmentKind.TheVariants as kinds
use Rattle.om_sheet.specs.declared.sheet.Title.{Title}
use Rattle.om_sheet.specs.declared.sheet.MessageLine.{MessageLine}
use Rattle.om_sheet.specs.declared.sheet.MessageLine.TheVariants as message_lines

-- the height of a lane
abbrev pub height : ℕ → ℕ
height lane = 112 + 64 * lane

-- the letter behind the class of what a round cut
abbrev pub cut_letter : Bool → List ℕ
cut_letter true = codes "x"
cut_letter false = []

-- a band, in a picture whose bands end at this height
unfoldable pub band_text : ℕ → Band → List ℕ
band_text bottom band =
    codes "<rect class=\"b\" x=\"" ++ decimal band.left ++ codes "\" y=\"74\" width=\"" ++ decimal (band.right - band.left)
    ++ codes "\" height=\"" ++ decimal (bottom - 74) ++ codes "\"/>\n"

abbrev pub segment_class : SegmentKind → List ℕ
segment_class (kinds.Up inc) = if inc % 3 == 0 then codes "u0" else (if inc % 3 == 1 then codes "u1" else codes "u2")
segment_class kinds.In = codes "w"
segment_class kinds.Down = codes "d"
segment_class kinds.Cut = codes "c"

-- a piece of a lane, or a tick of the axis
abbrev pub segment_text : LaneSegment → List ℕ
segment_text (segments.Span kind lane from to) =
    codes "<path class=\"" ++ segment_class kind ++ codes "\" d=\"M" ++ decimal from ++ 32 ∷ decimal (height lane)
    ++ codes "H" ++ decimal to ++ codes "\"/>\n"
segment_text (segments.Tick x) = codes "<path class=\"q\" d=\"M" ++ decimal x ++ codes " 57v4\"/>\n"

-- from a sending to a receipt: straight, and over the lane where it is one
unfoldable pub arrow_text : Spot → Spot → List ℕ
arrow_text from to =
    codes "M" ++ decimal from.x ++ 32 ∷ decimal (height from.lane)
    ++ (if from.lane == to.lane then codes "q0-15 8-15H" ++ decimal (to.x - 8) ++ codes "q8 0 8 15\"/>\n"
    else codes "L" ++ decimal to.x ++ 32 ∷ decimal (height to.lane) ++ codes "\"/>\n")

-- where the line of a message begins, by whether it was sent again, and whether it was cut
unfoldable pub message_start : Bool → Bool → List ℕ
message_start again cut = codes "<path class=\"" ++ (if again then codes "n" else codes "m") ++ cut_letter cut ++ codes "\" d=\""

-- a line across the lanes
abbrev pub message_line_text : MessageLine → List ℕ
message_line_text (message_lines.Message again cut from to) = message_start again cut ++ arrow_text from to
message_line_text (message_lines.Trail from to) = codes "<path class=\"o\" d=\"" ++ arrow_text from to
message_line_text (message_lines.Short below to) =
    codes "<path class=\"o\" d=\"M" ++ decimal (to.x - 12) ++ 32
    ∷ decimal (if below then height to.lane + 16 else height to.lane - 16)
    ++ codes "L" ++ decimal to.x ++ 32 ∷ decimal (height to.lane) ++ codes "\"/>\n"
message_line_text (message_lines.Held from to) =
    codes "<path class=\"o\" d=\"M" ++ decimal (from + 5) ++ 32 ∷ decimal (height to.lane - 19)
    ++ codes "H" ++ decimal (to.x - 3) ++ codes "\"/>\n"
message_line_text (message_lines.Stub below from) =
    codes "<path class=\"q\" d=\"M" ++ decimal from.x ++ 32 ∷ decimal (height from.lane)
    ++ (if below then codes "l8 11m-3 2l6-4" else codes "l8-11m-3-2l6 4") ++ codes "\"/>\n"

-- numbers of outputs or of frames, if there are some
unfoldable pub numbers_text : List ℕ → Numbers → List ℕ
numbers_text what numbers =
    if numbers.count == 0 then []
    else (if numbers.count == 1 then codes ", " ++ what ++ 32 ∷ decimal numbers.first
    else codes ", " ++ what ++ codes "s " ++ decimal numbers.first ++ codes " to " ++ decimal numbers.last)

-- the recovery state, where it changed
abbrev pub changed_text : Option (List ℕ) → List ℕ
changed_text changed = option_map_or (λ state. codes ", " ++ recovery_text state) changed []

-- what a title says beside the event and its answer
abbrev pub detail_text : TitleDetail → List ℕ
detail_text details.Nothing = []
detail_text (details.Made outputs frames) = numbers_text (codes "output") outputs ++ numbers_text (codes "frame") frames
detail_text (details.Interval interval) = codes ", interval " ++ decimal interval
detail_text (details.Released changed) = changed_text changed ++ codes ": released"
detail_text (details.Round changed round state) =
    changed_text changed ++ codes ": round " ++ decimal round ++ codes ", " ++ recovery_text state

-- the event's line, the event, its answer and more
unfoldable pub told_text : Title → List ℕ
told_text title = decimal title.line ++ 32 ∷ event_text title.event ++ codes ": " ++ answer_text title.answer ++ detail_text title.more

unfoldable pub title_text : Title → List ℕ
title_text title = codes "<title>" ++ told_text title ++ codes "</title>"

-- how a mark is drawn: its class, how far left of its place and how far up from its lane its path begins, and the path from there on
pub record GlyphLook : Type 0 where
  pub class : List ℕ
  pub left : ℕ
  pub up : ℕ
  pub path : List ℕ

abbrev pub look_of : Glyph → GlyphLook
look_of (glyphs.Receipt stored) = record { class = if stored then codes "l" else codes "v"; left = 0; up = 0; path = [] }
look_of glyphs.Checkpoint = record { class = codes "l"; left = 0; up = 0; path = [] }
look_of (glyphs.Stem again) = record { class = codes "k"; left = 0; up = 0; path = if again then codes "v-16m-4 0h8" else codes "v-16" }
look_of (glyphs.Head released) = record { class = if released then codes "l" else codes "v"; left = 4; up = 16; path = codes "l4-6 4 6z" }
look_of glyphs.End = record { class = codes "k"; left = 0; up = 7; path = codes "v14" }
look_of glyphs.Dot = record { class = codes "l"; left = 0; up = 0; path = [] }
look_of glyphs.Refused = record { class = codes "h"; left = 0; up = 5; path = codes "l5 5-5 5-5-5z" }
look_of (glyphs.Flush from) = record { class = codes "i"; left = 0; up = 0; path = [] }
look_of glyphs.Failure = record { class = codes "f"; left = 6; up = 6; path = codes "l12 12m0-12l-12 12" }
look_of glyphs.Join = record { class = codes "k"; left = 0; up = 6; path = codes "v12" }
look_of glyphs.Back = record { class = codes "l"; left = 4; up = 6; path = codes "l10 6-10 6z" }
look_of glyphs.GoesOn = record { class = codes "v"; left = 4; up = 6; path = codes "l10 6-10 6z" }
look_of glyphs.Released = record { class = codes "l"; left = 4; up = 16; path = codes "l4-6 4 6z" }

-- a circle of this radius, a square, the line of a flush, and any other mark
unfoldable pub circle_text : Shape → ℕ → List ℕ
circle_text shape radius =
    codes "<circle class=\"" ++ (look_of shape.glyph).class ++ cut_letter shape.cut ++ codes "\" cx=\"" ++ decimal shape.at.x
    ++ codes "\" cy=\"" ++ decimal (height shape.at.lane) ++ codes "\" r=\"" ++ decimal radius ++ codes "\">"
    ++ title_text shape.title ++ codes "</circle>\n"

unfoldable pub square_text : Shape → List ℕ
square_text shape =
    codes "<rect class=\"l" ++ cut_letter shape.cut ++ codes "\" x=\"" ++ decimal (shape.at.x - 5)
    ++ codes "\" y=\"" ++ decimal (height shape.at.lane - 5) ++ codes "\" width=\"10\" height=\"10\">"
    ++ title_text shape.title ++ codes "</rect>\n"

unfoldable pub flush_text : Shape → ℕ → List ℕ
flush_text shape from =
    codes "<path class=\"i\" d=\"M" ++ decimal (from - 5) ++ 32 ∷ decimal (height shape.at.lane + 6)
    ++ codes "v3H" ++ decimal shape.at.x ++ codes "v-3\">" ++ title_text shape.title ++ codes "</path>\n"

-- stems and heads have no title
unfoldable pub path_end : Glyph → Title → List ℕ
path_end (glyphs.Stem again) title = codes "/>\n"
path_end (glyphs.Head released) title = codes "/>\n"
path_end _ title = codes ">" ++ title_text title ++ codes "</path>\n"

unfoldable pub path_text : Shape → List ℕ
path_text shape =
    let look = look_of shape.glyph in
    codes "<path class=\"" ++ look.class ++ cut_letter shape.cut
    ++ codes "\" d=\"M" ++ decimal (shape.at.x - look.left) ++ 32 ∷ decimal (height shape.at.lane - look.up)
    ++ look.path ++ codes "\"" ++ path_end shape.glyph shape.title

-- a mark, by its form
abbrev pub glyph_text : Glyph → Shape → List ℕ
glyph_text (glyphs.Receipt stored) shape = circle_text shape 4
glyph_text glyphs.Dot shape = circle_text shape 2
glyph_text glyphs.Checkpoint shape = square_text shape
glyph_text (glyphs.Flush from) shape = flush_text shape from
glyph_text _ shape = path_text shape

abbrev pub shape_text : Shape → List ℕ
shape_text shape = glyph_text shape.glyph shape

-- a recovery line, at its place on a lane
abbrev pub place_text : Spot → List ℕ
place_text spot = codes "L" ++ decimal spot.x ++ 32 ∷ decimal (height spot.lane - 10) ++ codes "v20"

-- the column in which a path begins; 0 of no path
abbrev pub start_of : List Spot → ℕ
start_of [] = 0
start_of (spot ∷ spots) = spot.x

abbrev pub line_kind_class : LineKind → List ℕ
line_kind_class (line_kinds.Round title) = codes "r"
line_kind_class (line_kinds.End state) = codes "j"

abbrev pub crossed_title : LineKind → List ℕ
crossed_title (line_kinds.Round title) = title_text title
crossed_title (line_kinds.End state) = codes "<title>" ++ recovery_text state ++ codes "</title>"

-- a recovery line
unfoldable pub crossing_text : Crossing → List ℕ
crossing_text crossing =
    codes "<path class=\"" ++ line_kind_class crossing.kind ++ codes "\" d=\"M" ++ decimal (start_of crossing.places.items) ++ codes " 88"
    ++ flat_map place_text crossing.places.items ++ codes "v14\">" ++ crossed_title crossing.kind ++ codes "</path>\n"
