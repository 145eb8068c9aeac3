-- The parts of a picture piece by piece, as they are written.
use Rattle.std.specs.Prelude.{ℕ, List, ◌∷◌, ◌++◌, codes, decimal}
use Rattle.om_sheet.specs.declared.sheet.Counts.{Counts}
use Rattle.om_sheet.specs.declared.sheet.Drawn.{Drawn}
use Rattle.om_svg.specs.PictureText.{styles_text, summary_text}

-- what was shown and sent, what went wrong, and what came out
unfoldable pub shown_count : Counts → List ℕ
shown_count counts = codes "events shown " ++ decimal counts.shown

unfoldable pub sent_count : Counts → List ℕ
sent_count counts = codes "; messages sent " ++ decimal counts.sent

abbrev pub shown_text : Counts → List ℕ
shown_text counts = shown_count counts ++ sent_count counts

unfoldable pub resent_count : Counts → List ℕ
resent_count counts = codes ", sent again " ++ decimal counts.resent

unfoldable pub taken_count : Counts → List ℕ
taken_count counts = codes ", taken " ++ decimal counts.taken

abbrev pub taken_text : Counts → List ℕ
taken_text counts = resent_count counts ++ taken_count counts

abbrev pub sent_text : Counts → List ℕ
sent_text counts = shown_text counts ++ taken_text counts

unfoldable pub refused_count : Counts → List ℕ
refused_count counts = codes ", refused " ++ decimal counts.refused

unfoldable pub failure_count : Counts → List ℕ
failure_count counts = codes "; failures " ++ decimal counts.failures

abbrev pub failed_text : Counts → List ℕ
failed_text counts = refused_count counts ++ failure_count counts

unfoldable pub outputs_text : Counts → List ℕ
outputs_text counts =
    codes "; outputs " ++ decimal counts.made ++ codes ", released " ++ decimal counts.released ++ codes ", cut " ++ decimal counts.cut

-- the size of the picture
unfoldable pub svg_width : ℕ → List ℕ
svg_width width = codes "<svg xmlns=\"http://www.w3.org/2000/svg\" width=\"" ++ decimal width

unfoldable pub svg_height : ℕ → List ℕ
svg_height height = codes "\" height=\"" ++ decimal height

abbrev pub size_text : Drawn → List ℕ
size_text drawn = svg_width drawn.width ++ svg_height drawn.height

unfoldable pub view_text : Drawn → List ℕ
view_text drawn = codes "\" viewBox=\"0 0 " ++ decimal drawn.width ++ 32 ∷ decimal drawn.height ++ codes "\">\n<title>"

unfoldable pub ground_width : ℕ → List ℕ
ground_width width = codes "<rect width=\"" ++ decimal width

unfoldable pub ground_height : ℕ → List ℕ
ground_height height = codes "\" height=\"" ++ decimal height ++ codes "\" fill=\"#fff\"/>\n"

abbrev pub ground_text : Drawn → List ℕ
ground_text drawn = ground_width drawn.width ++ ground_height drawn.height

-- the size, the title, the style and the ground
unfoldable pub open_parts : Drawn → List ℕ
open_parts drawn = size_text drawn ++ view_text drawn ++ summary_text drawn ++ codes "</title>\n" ++ styles_text ++ ground_text drawn

-- the two lines of the head
unfoldable pub head_parts : Drawn → List ℕ
head_parts drawn =
    codes "<text class=\"t\" x=\"16\" y=\"20\">" ++ summary_text drawn ++ codes "</text>\n<text class=\"s\" x=\"16\" y=\"34\">"
    ++ sent_text drawn.counts ++ failed_text drawn.counts ++ outputs_text drawn.counts ++ codes "</text>\n"

unfoldable pub moved_text : ℕ → List ℕ
moved_text y = codes "<g transform=\"translate(16 " ++ decimal y ++ codes ")\">\n"
