-- The words of a picture.
use Rattle.std.specs.Prelude.{ℕ, ◌==◌, ◌-◌, nat_le, if◌then◌else◌, List, [], ◌∷◌, ◌++◌, Option, None, Some, slice_get, take, codes, decimal}
use Rattle.std.specs.Option.{option_map, unwrap_or}
use Rattle.hex.specs.Hex.{encode_lower}
use Rattle.om_scripts.specs.Programs.{Cluster, program_name}
use Rattle.om_svg.specs.AnswerText.{recovery_text, why_word}
use Rattle.om_world.specs.Texts.{status_text}
use Rattle.om_sheet.specs.declared.sheet.Style.{Style}
use Rattle.om_sheet.specs.declared.sheet.Style.TheVariants as styles
use Rattle.om_sheet.specs.declared.sheet.LabelContent.{LabelContent}
use Rattle.om_sheet.specs.declared.sheet.LabelContent.TheVariants as contents
use Rattle.om_sheet.specs.declared.sheet.Word.{Word}
use Rattle.om_sheet.specs.declared.step.Label.{Label}
use Rattle.om_sheet.specs.declared.step.EndState.{EndState}
use Rattle.om_sheet.specs.declared.step.TheConstants.{LABEL_BYTES}

-- the first bytes of an output in hexadecimal, and a mark where it has none
abbrev pub bytes_text : Label → List ℕ
bytes_text label =
    if label.size == 0 then codes "-"
    else (if nat_le label.size LABEL_BYTES then encode_lower (take label.size label.bytes)
    else encode_lower (take (LABEL_BYTES - 1) label.bytes) ++ codes "..")

-- the label of an output, and how many more there are
abbrev pub label_text : Label → ℕ → List ℕ
label_text label more = bytes_text label ++ (if more == 0 then [] else codes "+" ++ decimal more)

-- where a process stands
abbrev pub end_state_text : Option EndState → List ℕ
end_state_text None = codes "down"
end_state_text (Some now) = codes "inc " ++ decimal now.inc ++ codes " interval " ++ decimal now.interval ++ 32 ∷ status_text now.status

abbrev pub content_text : Cluster → LabelContent → List ℕ
content_text cluster (contents.Number number) = decimal number
content_text cluster (contents.Inc inc) = codes "inc " ++ decimal inc
content_text cluster (contents.Round round) = codes "round " ++ decimal round
content_text cluster contents.Gathering = codes "gathering"
content_text cluster (contents.Recovery state) = recovery_text state
content_text cluster (contents.Place place) = codes "recovery " ++ decimal place
content_text cluster (contents.Output label more) = label_text label more
content_text cluster (contents.End status) = status_text status
content_text cluster (contents.Why answer) = why_word answer
content_text cluster (contents.EndState end_state) = end_state_text end_state
content_text cluster (contents.Name p) = unwrap_or (option_map (λ e. e.0) (slice_get cluster.processes p)) []
content_text cluster (contents.Program p) = unwrap_or (option_map (λ e. program_name cluster e.1) (slice_get cluster.processes p)) []
content_text cluster contents.Line = codes "line"

abbrev pub style_text : Style → List ℕ
style_text styles.Plain = []
style_text styles.Small = codes " class=\"s\""
style_text styles.Grey = codes " class=\"y\""
style_text styles.Middle = codes " class=\"p\""

-- a word, at its place
abbrev pub sheet_word_text : Cluster → Word → List ℕ
sheet_word_text cluster word =
    codes "<text" ++ style_text word.style ++ codes " x=\"" ++ decimal word.x ++ codes "\" y=\"" ++ decimal word.y ++ codes "\">"
    ++ content_text cluster word.what ++ codes "</text>\n"
