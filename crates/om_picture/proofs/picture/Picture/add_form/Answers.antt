use Rattle.om_picture.specs.Drawing.{sketch_of}
use Rattle.om_picture.proofs.LaneLemmas.{form_settles}
use Rattle.om_picture.proofs.picture.Picture.add_form.Goals as goal

pub returns : goal.returns
returns c =
    form_settles c.add_shape.result (sketch_of c.args.self.now) (sketch_of c.add_shape.new.self) c.shape_of.result _ _ _ _
    c.shape_of.ensures.glyph c.shape_of.ensures.cut c.shape_of.ensures.title c.shape_of.ensures.at c.add_shape.ensures
