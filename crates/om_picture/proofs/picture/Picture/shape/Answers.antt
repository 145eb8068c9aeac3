use Rattle.std.proofs.Common.{ap, false}
use Rattle.om_picture.specs.Drawing.{sketch_of}
use Rattle.om_picture.specs.Fates.{EventAt}
use Rattle.om_picture.specs.Marks.{form_of, mark_of}
use Rattle.om_picture.proofs.ShowLemmas.{off_mark, on_mark}
use Rattle.om_picture.proofs.picture.Picture.shape.Goals as goal

pub returns-then-not-self : goal.returns-then-not-self
returns-then-not-self c = off_mark (sketch_of c.args.self.now) _ c.if-not-self.true

pub returns : goal.returns
returns c =
    on_mark c.add_shape.result (sketch_of c.args.self.now) (sketch_of c.add_shape.new.self) _ _ c.if-not-self.false
    (ap (λ (e : EventAt). mark_of (form_of c.args.glyph) false e) (c.title_of-title.ensures c.args.at)) c.add_shape.ensures
