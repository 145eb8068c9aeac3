-- The text of a whole picture.
use Rattle.std.specs.Prelude.{ℕ, List, ◌∷◌, ◌++◌, codes, decimal}
use Rattle.std.specs.List.{flat_map}
use Rattle.om_scripts.specs.Programs.{Cluster}
use Rattle.om_svg.specs.ShapeText.{band_text, crossing_text, segment_text, shape_text, message_line_text}
use Rattle.om_svg.specs.WordText.{sheet_word_text}
use Rattle.om_sheet.specs.declared.sheet.Counts.{Counts}
use Rattle.om_sheet.specs.declared.sheet.Drawn.{Drawn}
use Rattle.om_sheet.specs.declared.sheet.Sheet.{Sheet}
use Rattle.om_svg.specs.declared.text.TheConstants.{LEGEND, STYLE}

-- how the classes of marks look, and what the marks mean
unfoldable pub styles_text : List ℕ
styles_text = STYLE.now

unfoldable pub key_text : List ℕ
key_text = LEGEND.now

unfoldable pub summary_text : Drawn → List ℕ
summary_text drawn =
    codes "omlog sim: processes " ++ decimal drawn.lanes ++ codes ", events " ++ decimal drawn.counts.events ++ codes ", rounds "
    ++ decimal drawn.counts.rounds

-- what was shown and sent, what went wrong, and what came out
unfoldable pub counts_text : Counts → List ℕ
counts_text counts =
    codes "events shown " ++ decimal counts.shown ++ codes "; messages sent " ++ decimal counts.sent
    ++ codes ", sent again " ++ decimal counts.resent ++ codes ", taken " ++ decimal counts.taken
    ++ codes ", refused " ++ decimal counts.refused ++ codes "; failures " ++ decimal counts.failures
    ++ codes "; outputs " ++ decimal counts.made ++ codes ", released " ++ decimal counts.released ++ codes ", cut " ++ decimal counts.cut

-- the size, the title, the style and the ground
unfoldable pub open_text : Drawn → List ℕ
open_text drawn =
    codes "<svg xmlns=\"http://www.w3.org/2000/svg\" width=\"" ++ decimal drawn.width ++ codes "\" height=\"" ++ decimal drawn.height
    ++ codes "\" viewBox=\"0 0 " ++ decimal drawn.width ++ 32 ∷ decimal drawn.height ++ codes "\">\n<title>" ++ summary_text drawn
    ++ codes "</title>\n" ++ styles_text
    ++ codes "<rect width=\"" ++ decimal drawn.width ++ codes "\" height=\"" ++ decimal drawn.height ++ codes "\" fill=\"#fff\"/>\n"

-- the layers below the marks, each before the next
unfoldable pub layers_text : ℕ → Sheet → List ℕ
layers_text bottom sheet =
    flat_map (band_text bottom) sheet.back.items
    ++ flat_map segment_text sheet.segment.items
    ++ flat_map message_line_text sheet.send.items
    ++ flat_map crossing_text sheet.line.items

-- the two lines of the head
unfoldable pub head_text : Drawn → List ℕ
head_text drawn =
    codes "<text class=\"t\" x=\"16\" y=\"20\">" ++ summary_text drawn ++ codes "</text>\n<text class=\"s\" x=\"16\" y=\"34\">"
    ++ counts_text drawn.counts ++ codes "</text>\n"

unfoldable pub legend_text : Drawn → List ℕ
legend_text drawn = codes "<g transform=\"translate(16 " ++ decimal drawn.legend ++ codes ")\">\n" ++ key_text ++ codes "</g>\n</svg>\n"

-- the picture of processes of these names: its pieces by layer, each in the order in which it was drawn
unfoldable pub picture_text : Cluster → Drawn → List ℕ
picture_text cluster drawn =
    open_text drawn ++ layers_text drawn.bottom drawn.sheet ++ flat_map shape_text drawn.marks.items ++ head_text drawn
    ++ flat_map (sheet_word_text cluster) drawn.sheet.text.items ++ legend_text drawn
