use Rattle.om_picture.specs.Drawing.{sketch_of}
use Rattle.om_picture.specs.Fates.{step_entry}
use Rattle.om_picture.proofs.ShowLemmas.{join_shown}
use Rattle.om_picture.proofs.picture.Picture.draw_join.Goals as goal

pub returns : goal.returns
returns c =
    join_shown c.shape.result (sketch_of c.args.self.now) (sketch_of c.log.new.self) (sketch_of c.shape.new.self) c.args.p _
    (step_entry c.args.step.now c.args.at) c.in_ok-log.ensures c.shape.ensures
