use Rattle.std.proofs.Common.{◌∷◌, ap, ◌∙◌, map}
use Rattle.std.specs.Prelude.{string_bytes}
use Rattle.om_image.proofs.Whole.{taken}
use Rattle.om_image.proofs.line.check.Goals as goal

pub returns : goal.returns
returns c =
    let same = ap (map (λ word. word.now)) c.deref.ensures.value ∙ c.in_ok-words.ensures in
    taken c.args.ext c.new-programs.result (map (λ word. word.now) c.deref.result.now) (c.args.name.now ∷ c.args.size.now ∷ map string_bytes c.args.texts.now) c.add_program.result c.add_program.new.self c.new-programs.ensures same c.add_program.ensures.line
