use Rattle.std.proofs.Common.{◌≡◌, ◌≢◌, ℕ, ◌+◌, ◌<◌, List, [], ◌∷◌, ◌++◌, Result, Err, refl, sym, ◌∙◌, ap, subst, append_assoc, add-one, drop-cons, length, get_or, drop, replicate, suc}
use Rattle.om_recover.specs.Rows.{Rows}
use Rattle.om_recover.specs.Recoverable.{IsGreatest}
use Rattle.om_recover.specs.Offered.{offered, TellsChange}
use Rattle.om_recover.specs.declared.note.Note.{Note}
use Rattle.om_recover.specs.declared.note.NoteError.{NoteError}
use Rattle.om_recover.specs.declared.note.NoteError.TheVariants.{Memory}
use Rattle.om_commands.specs.Report.{answer_word, intervals_text, offered_row, IsReportFrom}
use Rattle.om_commands.specs.declared.record_script.NoteLine.{NoteLine}

-- what is left at a place is what stands there and the rest
drop-place : (notes : List NoteLine) (i : ℕ) (note : NoteLine) → i < length notes → note ≡ get_or notes i note → drop i notes ≡ note ∷ drop (i + 1) notes
drop-place notes i note within is = rw add-one (drop-cons notes i note within ∙ ap (λ (n : NoteLine). n ∷ drop (suc i) notes) (sym is))

-- a line of the text, and what follows it
line_and_rest : (before word state rest : List ℕ) → ((before ++ word) ++ 58 ∷ []) ++ state ++ rest ≡ before ++ (word ++ 58 ∷ state ++ rest)
line_and_rest before word state rest = simp append_assoc

-- where the text so far completes each text of the notes to come, it does with a line more
pub report_more : (Whole : List ℕ → Type 0) (n : ℕ) (rows after : Rows) (state next : List ℕ) (notes : List NoteLine) (i : ℕ) (note : NoteLine) (answer : Result Note NoteError) (before longer : List ℕ)
    → i < length notes → note ≡ get_or notes i note
    → offered n rows (offered_row (replicate n 0) note) answer after → IsGreatest n after next → TellsChange answer state next → answer ≢ Err Memory
    → longer ≡ ((before ++ answer_word answer) ++ 58 ∷ []) ++ intervals_text next
    → ((rest : List ℕ) → IsReportFrom n rows state (drop i notes) rest → Whole (before ++ rest))
    → (rest : List ℕ) → IsReportFrom n after next (drop (i + 1) notes) rest → Whole (longer ++ rest)
report_more Whole n rows after state next notes i note answer before longer within is offer greatest change written longer_is told rest told_rest =
    let text : List ℕ = answer_word answer ++ 58 ∷ intervals_text next ++ rest in
    let here : IsReportFrom n rows state (drop i notes) text =
    subst (λ ns. IsReportFrom n rows state ns text) (sym (drop-place notes i note within is)) (answer, after, next, rest, offer, greatest, change, written, told_rest, refl) in
    subst Whole (sym (ap (λ t. t ++ rest) longer_is ∙ line_and_rest before (answer_word answer) (intervals_text next) rest)) (told text here)
