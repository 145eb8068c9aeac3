-- The elements of a picture piece by piece, as they are written.
use Rattle.std.specs.Prelude.{ℕ, ◌+◌, ◌-◌, List, ◌∷◌, ◌++◌, codes, decimal}
use Rattle.std.specs.List.{flat_map}
use Rattle.om_sheet.specs.declared.sheet.Band.{Band}
use Rattle.om_sheet.specs.declared.sheet.LineKind.{LineKind}
use Rattle.om_sheet.specs.declared.sheet.Crossing.{Crossing}
use Rattle.om_sheet.specs.declared.sheet.Shape.{Shape}
use Rattle.om_sheet.specs.declared.sheet.Spot.{Spot}
use Rattle.om_svg.specs.ShapeText.{crossed_title, cut_letter, height, line_kind_class, look_of, path_end, place_text, start_of, title_text}

-- a rectangle of this left side, width and height
unfoldable pub band_left : ℕ → List ℕ
band_left left = codes "<rect class=\"b\" x=\"" ++ decimal left

unfoldable pub band_width : ℕ → List ℕ
band_width width = codes "\" y=\"74\" width=\"" ++ decimal width

abbrev pub band_start : ℕ → ℕ → List ℕ
band_start left width = band_left left ++ band_width width

unfoldable pub band_end : ℕ → List ℕ
band_end high = codes "\" height=\"" ++ decimal high ++ codes "\"/>\n"

unfoldable pub band_at : ℕ → ℕ → ℕ → List ℕ
band_at left width high = band_start left width ++ band_end high

-- a band, in a picture whose bands end at this height
unfoldable pub band_parts : ℕ → Band → List ℕ
band_parts bottom band = band_at band.left (band.right - band.left) (bottom - 74)

unfoldable pub turning_start : ℕ → ℕ → List ℕ
turning_start x y = codes "M" ++ decimal x ++ 32 ∷ decimal y

unfoldable pub turning_end : ℕ → List ℕ
turning_end turn = codes "q0-15 8-15H" ++ decimal turn ++ codes "q8 0 8 15\"/>\n"

unfoldable pub turning_at : ℕ → ℕ → ℕ → List ℕ
turning_at x y turn = turning_start x y ++ turning_end turn

unfoldable pub turning_parts : Spot → Spot → List ℕ
turning_parts from to = turning_at from.x (height from.lane) (to.x - 8)

unfoldable pub straight_parts : Spot → Spot → List ℕ
straight_parts from to =
    codes "M" ++ decimal from.x ++ 32 ∷ decimal (height from.lane) ++ codes "L" ++ decimal to.x ++ 32 ∷ decimal (height to.lane)
    ++ codes "\"/>\n"

unfoldable pub circle_start : List ℕ → List ℕ → List ℕ
circle_start class cut = codes "<circle class=\"" ++ class ++ cut

unfoldable pub circle_x : ℕ → List ℕ
circle_x x = codes "\" cx=\"" ++ decimal x

unfoldable pub circle_y : ℕ → List ℕ
circle_y y = codes "\" cy=\"" ++ decimal y

abbrev pub circle_middle : ℕ → ℕ → List ℕ
circle_middle x y = circle_x x ++ circle_y y

unfoldable pub circle_end : ℕ → List ℕ
circle_end radius = codes "\" r=\"" ++ decimal radius ++ codes "\">"

unfoldable pub circle_at : List ℕ → List ℕ → ℕ → ℕ → ℕ → List ℕ
circle_at class cut x y radius = circle_start class cut ++ circle_middle x y ++ circle_end radius

unfoldable pub circle_parts : Shape → ℕ → List ℕ
circle_parts shape radius =
    circle_at (look_of shape.glyph).class (cut_letter shape.cut) shape.at.x (height shape.at.lane) radius ++ title_text shape.title
    ++ codes "</circle>\n"

unfoldable pub square_class : List ℕ → List ℕ
square_class cut = codes "<rect class=\"l" ++ cut

unfoldable pub square_x : ℕ → List ℕ
square_x x = codes "\" x=\"" ++ decimal x

abbrev pub square_start : List ℕ → ℕ → List ℕ
square_start cut x = square_class cut ++ square_x x

unfoldable pub square_end : ℕ → List ℕ
square_end y = codes "\" y=\"" ++ decimal y ++ codes "\" width=\"10\" height=\"10\">"

unfoldable pub square_at : List ℕ → ℕ → ℕ → List ℕ
square_at cut x y = square_start cut x ++ square_end y

unfoldable pub square_parts : Shape → List ℕ
square_parts shape =
    square_at (cut_letter shape.cut) (shape.at.x - 5) (height shape.at.lane - 5) ++ title_text shape.title ++ codes "</rect>\n"

unfoldable pub flush_start : ℕ → ℕ → List ℕ
flush_start start y = codes "<path class=\"i\" d=\"M" ++ decimal start ++ 32 ∷ decimal y

unfoldable pub flush_end : ℕ → List ℕ
flush_end x = codes "v3H" ++ decimal x ++ codes "v-3\">"

unfoldable pub flush_at : ℕ → ℕ → ℕ → List ℕ
flush_at start y x = flush_start start y ++ flush_end x

unfoldable pub flush_parts : Shape → ℕ → List ℕ
flush_parts shape from =
    flush_at (from - 5) (height shape.at.lane + 6) shape.at.x ++ title_text shape.title ++ codes "</path>\n"

unfoldable pub path_start : List ℕ → List ℕ → List ℕ
path_start class cut = codes "<path class=\"" ++ class ++ cut

unfoldable pub path_middle : ℕ → ℕ → List ℕ
path_middle x y = codes "\" d=\"M" ++ decimal x ++ 32 ∷ decimal y

unfoldable pub path_tail : List ℕ → List ℕ
path_tail path = path ++ codes "\""

unfoldable pub path_at : List ℕ → List ℕ → ℕ → ℕ → List ℕ → List ℕ
path_at class cut x y path = path_start class cut ++ path_middle x y ++ path_tail path

unfoldable pub path_parts : Shape → List ℕ
path_parts shape =
    path_at (look_of shape.glyph).class (cut_letter shape.cut) (shape.at.x - (look_of shape.glyph).left)
    (height shape.at.lane - (look_of shape.glyph).up) (look_of shape.glyph).path ++ path_end shape.glyph shape.title

unfoldable pub line_kind_text : LineKind → List ℕ
line_kind_text kind = codes "v14\">" ++ crossed_title kind ++ codes "</path>\n"

unfoldable pub line_text : Crossing → List ℕ
line_text crossing =
    codes "<path class=\"" ++ line_kind_class crossing.kind ++ codes "\" d=\"M" ++ decimal (start_of crossing.places.items) ++ codes " 88"

-- a recovery line
unfoldable pub crossing_parts : Crossing → List ℕ
crossing_parts crossing = line_text crossing ++ flat_map place_text crossing.places.items ++ line_kind_text crossing.kind
