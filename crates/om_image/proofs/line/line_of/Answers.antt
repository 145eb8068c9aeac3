use Rattle.std.proofs.Common.{◌≡◌, ◌∷◌, ◌++◌, [], Ok, ap, ◌∙◌, map, subst}
use Rattle.std.specs.Prelude.{string_bytes}
use Rattle.om_scripts.specs.Programs.{Cluster, no_programs, program_line}
use Rattle.om_image.specs.Image.{keyword}
use Rattle.om_look.specs.Trace.{word_text}
use Rattle.om_image.specs.steps.Lines.{spaced}
use Rattle.om_image.proofs.Whole.{image_line, image_short}
use Rattle.om_image.proofs.line.line_of.Goals as goal

pub returns-clause-line : goal.returns-clause-line
returns-clause-line c =
    let name = c.args.name.now in
    let size = c.args.size.now in
    image_line c.args.ext name size c.args.bytes.now c.in_ok-words.words.items (map string_bytes c.in_ok-texts.texts.items) c.in_ok-joined.field-0.items
    c.in_ok-words.ensures.words c.in_ok-words.ensures.range (c.in_ok-texts.ensures ∙ ap (map word_text) c.deref.ensures.value)
    (subst (λ l. (cluster : Cluster) × (program_line c.args.ext no_programs (name ∷ size ∷ map string_bytes l) ≡ Ok cluster)) c.deref-2.ensures.value c.in_ok-check.ensures)
    (c.in_ok-joined.ensures ∙ ap (λ l. (keyword c.args.ext ++ spaced (name ∷ size ∷ map string_bytes l)) ++ 10 ∷ []) c.deref-3.ensures.value)

pub returns-clause-short : goal.returns-clause-short
returns-clause-short c =
    let name = c.args.name.now in
    let size = c.args.size.now in
    image_short c.args.ext name size c.args.bytes.now c.in_ok-words.words.items (map string_bytes c.in_ok-texts.texts.items)
    c.in_ok-words.ensures.words c.in_ok-words.ensures.range (c.in_ok-texts.ensures ∙ ap (map word_text) c.deref.ensures.value)
    (subst (λ l. (cluster : Cluster) × (program_line c.args.ext no_programs (name ∷ size ∷ map string_bytes l) ≡ Ok cluster)) c.deref-2.ensures.value c.in_ok-check.ensures)
