use Rattle.om_picture.specs.Drawing.{sketch_of}
use Rattle.om_picture.specs.Fates.{step_entry}
use Rattle.om_picture.proofs.ShowLemmas.{back_shown}
use Rattle.om_picture.proofs.picture.Picture.draw_back.Goals as goal

pub returns : goal.returns
returns c =
    back_shown c.shape.result (sketch_of c.args.self.now) (sketch_of c.go_back.new.self) (sketch_of c.shape.new.self) c.args.p _ _ _
    (step_entry c.args.step.now c.args.at) c.go_back.ensures c.shape.ensures
