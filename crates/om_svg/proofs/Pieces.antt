-- What is written piece by piece is the whole text.
use Rattle.std.proofs.Common.{◌≡◌, ℕ, ◌+◌, ◌-◌, ◌==◌, Bool, false, inl, inr, List, ◌∷◌, ◌++◌, OnOk, Result, Ok, Err, if◌then◌else◌, is_ok, sym, ap, ◌∙◌, append_assoc, codes, decimal}
use Rattle.std.specs.List.{flat_map}
use Rattle.std.proofs.lemmas.Bool.{eq-eqb}
use Rattle.std.proofs.lemmas.Bool.Decides.{eqb_tells}
use Rattle.om_sheet.specs.declared.sheet.Band.{Band}
use Rattle.om_sheet.specs.declared.sheet.Crossing.{Crossing}
use Rattle.om_sheet.specs.declared.sheet.Drawn.{Drawn}
use Rattle.om_sheet.specs.declared.sheet.Shape.{Shape}
use Rattle.om_sheet.specs.declared.sheet.Spot.{Spot}
use Rattle.om_svg.specs.PictureText.{counts_text, head_text, open_text, styles_text, summary_text}
use Rattle.om_svg.specs.ShapeText.{band_text, circle_text, line_kind_class, crossed_title, crossing_text, arrow_text, cut_letter, flush_text, height, look_of, path_end, path_text, place_text, square_text, start_of, title_text}
use Rattle.om_svg.specs.steps.Marks.{band_at, band_end, band_left, band_parts, band_width, circle_at, circle_end, circle_parts, circle_start, circle_x, circle_y, line_kind_text, crossing_parts, flush_at, flush_end, flush_parts, flush_start, line_text, path_at, path_middle, path_parts, path_start, path_tail, square_at, square_class, square_end, square_parts, square_x, straight_parts, turning_at, turning_end, turning_parts, turning_start}
use Rattle.om_svg.specs.steps.Sheets.{failure_count, ground_height, ground_width, head_parts, open_parts, outputs_text, refused_count, resent_count, sent_count, shown_count, svg_height, svg_width, taken_count, view_text}

-- what was written in parts is the whole
pub by_parts : {A E : Type 0} (r : Result A E) (now before whole parts : List ℕ) → whole ≡ parts → OnOk r (now ≡ before ++ parts) → OnOk r (now ≡ before ++ whole)
by_parts (Ok x) now before whole parts same told = told ∙ ap (λ t. before ++ t) (sym same)
by_parts (Err e) now before whole parts same told = tt

-- and the last part ends it
pub ends : {A E : Type 0} (r : Result A E) (now before end old whole : List ℕ) → now ≡ (if is_ok r then before ++ end else before) → before ++ end ≡ old ++ whole
    → OnOk r (now ≡ old ++ whole)
ends (Ok x) now before end old whole told same = told ∙ same
ends (Err e) now before end old whole told same = tt

legend_regrouped : (old a b end : List ℕ) → ((old ++ a) ++ b) ++ end ≡ old ++ (a ++ b ++ end)
legend_regrouped old a b end = simp append_assoc

pub legend_ends : (old first second a b end : List ℕ) → first ≡ old ++ a → second ≡ first ++ b → second ++ end ≡ old ++ (a ++ b ++ end)
legend_ends old first second a b end one two = ap (λ t. t ++ end) (two ∙ ap (λ t. t ++ b) one) ∙ legend_regrouped old a b end

head_regrouped : (old a b c d e f end : List ℕ) → ((((((old ++ a) ++ b) ++ c) ++ d) ++ e) ++ f) ++ end ≡ old ++ (a ++ b ++ c ++ d ++ e ++ f ++ end)
head_regrouped old a b c d e f end = simp append_assoc

pub head_ends : (old r s t u v w a b c d e f end : List ℕ) → r ≡ old ++ a → s ≡ r ++ b → t ≡ s ++ c → u ≡ t ++ d → v ≡ u ++ e → w ≡ v ++ f
    → w ++ end ≡ old ++ (a ++ b ++ c ++ d ++ e ++ f ++ end)
head_ends old r s t u v w a b c d e f end one two three four five six =
    ap (λ x. x ++ end)
    (six ∙ ap (λ x. x ++ f) (five ∙ ap (λ x. x ++ e) (four ∙ ap (λ x. x ++ d) (three ∙ ap (λ x. x ++ c) (two ∙ ap (λ x. x ++ b) one)))))
    ∙ head_regrouped old a b c d e f end

-- ---- texts in groups: `++` groups from the left
band_grouped : (a b c d e f g : List ℕ) → a ++ b ++ c ++ d ++ e ++ f ++ g ≡ ((a ++ b) ++ (c ++ d)) ++ (e ++ f ++ g)
band_grouped a b c d e f g = simp append_assoc

turning_grouped : (a b c d e f : List ℕ) → a ++ b ++ c ++ (d ++ e ++ f) ≡ (a ++ b ++ c) ++ (d ++ e ++ f)
turning_grouped a b c d e f = simp append_assoc

straight_grouped : (a b c d e f g : List ℕ) → a ++ b ++ c ++ (d ++ e ++ f ++ g) ≡ a ++ b ++ c ++ d ++ e ++ f ++ g
straight_grouped a b c d e f g = simp append_assoc

circle_grouped : (a b c d e f g h i j k l : List ℕ) → a ++ b ++ c ++ d ++ e ++ f ++ g ++ h ++ i ++ j ++ k ++ l
    ≡ (a ++ b ++ c) ++ ((d ++ e) ++ (f ++ g)) ++ (h ++ i ++ j) ++ k ++ l
circle_grouped a b c d e f g h i j k l = simp append_assoc

square_grouped : (a b c d e f g h i : List ℕ) → a ++ b ++ c ++ d ++ e ++ f ++ g ++ h ++ i ≡ (((a ++ b) ++ (c ++ d)) ++ (e ++ f ++ g)) ++ h ++ i
square_grouped a b c d e f g h i = simp append_assoc

flush_grouped : (a b c d e f g h : List ℕ) → a ++ b ++ c ++ d ++ e ++ f ++ g ++ h ≡ ((a ++ b ++ c) ++ (d ++ e ++ f)) ++ g ++ h
flush_grouped a b c d e f g h = simp append_assoc

path_grouped : (a b c d e f g h i : List ℕ) → a ++ b ++ c ++ d ++ e ++ f ++ g ++ h ++ i ≡ (a ++ b ++ c) ++ (d ++ e ++ f) ++ (g ++ h) ++ i
path_grouped a b c d e f g h i = simp append_assoc

crossing_grouped : (a b c d e f g h i : List ℕ) → a ++ b ++ c ++ d ++ e ++ f ++ g ++ h ++ i ≡ (a ++ b ++ c ++ d ++ e) ++ f ++ (g ++ h ++ i)
crossing_grouped a b c d e f g h i = simp append_assoc

open_grouped : (a b c d e f g h i j k l m n o p : List ℕ) → a ++ b ++ c ++ d ++ e ++ f ++ g ++ h ++ i ++ j ++ k ++ l ++ m ++ n ++ o ++ p
    ≡ ((a ++ b) ++ (c ++ d)) ++ (e ++ f ++ g ++ h) ++ i ++ j ++ k ++ ((l ++ m) ++ (n ++ o ++ p))
open_grouped a b c d e f g h i j k l m n o p = simp append_assoc

counts_grouped : (y a b c d e f g h i j k l m n o p q r z : List ℕ) → y ++ (a ++ b ++ c ++ d ++ e ++ f ++ g ++ h ++ i ++ j ++ k ++ l ++ m ++ n ++ o ++ p ++ q ++ r) ++ z
    ≡ y ++ (((a ++ b) ++ (c ++ d)) ++ ((e ++ f) ++ (g ++ h))) ++ ((i ++ j) ++ (k ++ l)) ++ (m ++ n ++ o ++ p ++ q ++ r) ++ z
counts_grouped y a b c d e f g h i j k l m n o p q r z = simp append_assoc

-- ---- the elements
pub band_is : (bottom : ℕ) (band : Band) → band_text bottom band ≡ band_parts bottom band
unfolding band_text band_parts band_at band_left band_width band_end
band_is bottom band =
    band_grouped (codes "<rect class=\"b\" x=\"") (decimal band.left) (codes "\" y=\"74\" width=\"") (decimal (band.right - band.left))
    (codes "\" height=\"") (decimal (bottom - 74)) (codes "\"/>\n")

-- an arrow, by whether it stays on its lane
abbrev arrow_by : Bool → Spot → Spot → List ℕ
arrow_by same from to =
    codes "M" ++ decimal from.x ++ 32 ∷ decimal (height from.lane)
    ++ (if same then codes "q0-15 8-15H" ++ decimal (to.x - 8) ++ codes "q8 0 8 15\"/>\n"
    else codes "L" ++ decimal to.x ++ 32 ∷ decimal (height to.lane) ++ codes "\"/>\n")

pub turning_is : (from to : Spot) → from.lane ≡ to.lane → arrow_text from to ≡ turning_parts from to
unfolding arrow_text turning_parts turning_at turning_start turning_end
turning_is from to same =
    ap (λ (b : Bool). arrow_by b from to) (eq-eqb from.lane to.lane same)
    ∙ turning_grouped (codes "M") (decimal from.x) (32 ∷ decimal (height from.lane)) (codes "q0-15 8-15H") (decimal (to.x - 8)) (codes "q8 0 8 15\"/>\n")

apart : (a b : ℕ) → (a ≡ b → ⊥) → (a == b) ≡ false
apart a b away = elim (eqb_tells a b) [
  | inl same ↦ absurd (away same.1)
  | inr other ↦ other.0
]

pub straight_is : (from to : Spot) → (from.lane ≡ to.lane → ⊥) → arrow_text from to ≡ straight_parts from to
unfolding arrow_text straight_parts
straight_is from to away =
    ap (λ (b : Bool). arrow_by b from to) (apart from.lane to.lane away)
    ∙ straight_grouped (codes "M") (decimal from.x) (32 ∷ decimal (height from.lane)) (codes "L") (decimal to.x) (32 ∷ decimal (height to.lane))
    (codes "\"/>\n")

pub circle_is : (shape : Shape) (radius : ℕ) → circle_text shape radius ≡ circle_parts shape radius
unfolding circle_text circle_parts circle_at circle_start circle_x circle_y circle_end
circle_is shape radius =
    circle_grouped (codes "<circle class=\"") (look_of shape.glyph).class (cut_letter shape.cut) (codes "\" cx=\"") (decimal shape.at.x)
    (codes "\" cy=\"") (decimal (height shape.at.lane)) (codes "\" r=\"") (decimal radius) (codes "\">") (title_text shape.title) (codes "</circle>\n")

pub square_is : (shape : Shape) → square_text shape ≡ square_parts shape
unfolding square_text square_parts square_at square_class square_x square_end
square_is shape =
    square_grouped (codes "<rect class=\"l") (cut_letter shape.cut) (codes "\" x=\"") (decimal (shape.at.x - 5)) (codes "\" y=\"")
    (decimal (height shape.at.lane - 5)) (codes "\" width=\"10\" height=\"10\">") (title_text shape.title) (codes "</rect>\n")

pub flush_is : (shape : Shape) (from : ℕ) → flush_text shape from ≡ flush_parts shape from
unfolding flush_text flush_parts flush_at flush_start flush_end
flush_is shape from =
    flush_grouped (codes "<path class=\"i\" d=\"M") (decimal (from - 5)) (32 ∷ decimal (height shape.at.lane + 6)) (codes "v3H")
    (decimal shape.at.x) (codes "v-3\">") (title_text shape.title) (codes "</path>\n")

pub path_is : (shape : Shape) → path_text shape ≡ path_parts shape
unfolding path_text path_parts path_at path_start path_middle path_tail
path_is shape =
    let look = look_of shape.glyph in
    path_grouped (codes "<path class=\"") look.class (cut_letter shape.cut) (codes "\" d=\"M") (decimal (shape.at.x - look.left))
    (32 ∷ decimal (height shape.at.lane - look.up)) look.path (codes "\"") (path_end shape.glyph shape.title)

pub crossing_is : (crossing : Crossing) → crossing_text crossing ≡ crossing_parts crossing
unfolding crossing_text crossing_parts line_text line_kind_text
crossing_is crossing =
    crossing_grouped (codes "<path class=\"") (line_kind_class crossing.kind) (codes "\" d=\"M") (decimal (start_of crossing.places.items)) (codes " 88")
    (flat_map place_text crossing.places.items) (codes "v14\">") (crossed_title crossing.kind) (codes "</path>\n")

-- ---- the parts
pub open_is : (drawn : Drawn) → open_text drawn ≡ open_parts drawn
unfolding open_text open_parts svg_width svg_height view_text ground_width ground_height
open_is drawn =
    open_grouped (codes "<svg xmlns=\"http://www.w3.org/2000/svg\" width=\"") (decimal drawn.width) (codes "\" height=\"") (decimal drawn.height)
    (codes "\" viewBox=\"0 0 ") (decimal drawn.width) (32 ∷ decimal drawn.height) (codes "\">\n<title>") (summary_text drawn) (codes "</title>\n") styles_text
    (codes "<rect width=\"") (decimal drawn.width) (codes "\" height=\"") (decimal drawn.height) (codes "\" fill=\"#fff\"/>\n")

pub head_is : (drawn : Drawn) → head_text drawn ≡ head_parts drawn
unfolding head_text head_parts counts_text shown_count sent_count resent_count taken_count refused_count failure_count outputs_text
head_is drawn =
    let c = drawn.counts in
    counts_grouped (codes "<text class=\"t\" x=\"16\" y=\"20\">" ++ summary_text drawn ++ codes "</text>\n<text class=\"s\" x=\"16\" y=\"34\">")
    (codes "events shown ") (decimal c.shown) (codes "; messages sent ") (decimal c.sent) (codes ", sent again ") (decimal c.resent)
    (codes ", taken ") (decimal c.taken) (codes ", refused ") (decimal c.refused) (codes "; failures ") (decimal c.failures)
    (codes "; outputs ") (decimal c.made) (codes ", released ") (decimal c.released) (codes ", cut ") (decimal c.cut) (codes "</text>\n")
