use Rattle.std.proofs.Common.{◌∙◌, refl, sym}
use Rattle.std.proofs.lemmas.Bool.{eq-eqb}
use Rattle.om_picture.specs.Drawing.{sketch_of}
use Rattle.om_picture.specs.steps.Adding.{fate_in}
use Rattle.om_picture.specs.Marks.{title_entry}
use Rattle.om_picture.proofs.LaneLemmas.{not_zero, outputs_again, outputs_new, outputs_none}
use Rattle.om_picture.proofs.picture.Picture.add_outputs.Goals as goal

pub returns-then-not-has_outputs : goal.returns-then-not-has_outputs
returns-then-not-has_outputs c =
    outputs_none (sketch_of c.args.self.now) _ c.args.mark.now.fresh (fate_in c.args.fate)
    (title_entry c.args.mark.now.title c.args.mark.now.at) (sym c.if-not-has_outputs.true ∙ c.has_outputs.ensures)

pub returns-then-again : goal.returns-then-again
returns-then-again c =
    outputs_again (sketch_of c.args.self.now) (sketch_of c.add_form.new.self) _ c.args.mark.now.fresh (fate_in c.args.fate)
    (title_entry c.args.mark.now.title c.args.mark.now.at) _ (sym c.if-not-has_outputs.false ∙ c.has_outputs.ensures) refl
    (eq-eqb c.args.mark.now.fresh 0 c.if-again.true) c.in_ok-add_form.ensures

pub returns : goal.returns
returns c =
    outputs_new c.add_form-2.result (sketch_of c.args.self.now) (sketch_of c.add_form.new.self) (sketch_of c.add_form-2.new.self) _
    c.args.mark.now.fresh (fate_in c.args.fate) (title_entry c.args.mark.now.title c.args.mark.now.at) _
    (sym c.if-not-has_outputs.false ∙ c.has_outputs.ensures) refl (not_zero c.args.mark.now.fresh c.if-again.false)
    c.in_ok-add_form.ensures c.add_form-2.ensures
