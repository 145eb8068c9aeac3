use Rattle.std.proofs.lemmas.Bool.{eq-eqb}
use Rattle.om_picture.specs.Drawing.{sketch_of}
use Rattle.om_picture.proofs.LaneLemmas.{not_zero, settles_mark, settles_past}
use Rattle.om_picture.proofs.picture.Picture.settle.Goals as goal

pub returns-then-mark-eq0 : goal.returns-then-mark-eq0
returns-then-mark-eq0 c =
    settles_past (sketch_of c.args.self.now) c.args.mark.now _ (eq-eqb c.args.mark.now.at.x 0 c.if-mark-eq0.true)

pub returns : goal.returns
returns c =
    settles_mark c.add_form.result (sketch_of c.args.self.now) (sketch_of c.add_outputs.new.self) (sketch_of c.add_form.new.self)
    c.args.mark.now _ _ (not_zero c.args.mark.now.at.x c.if-mark-eq0.false) c.glyph_of.ensures c.in_ok-add_outputs.ensures c.add_form.ensures
