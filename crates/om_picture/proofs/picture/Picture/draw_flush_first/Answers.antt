use Rattle.om_picture.specs.Drawing.{sketch_of}
use Rattle.om_picture.specs.Fates.{step_entry}
use Rattle.om_picture.proofs.ShowLemmas.{flush_first_shown}
use Rattle.om_picture.proofs.picture.Picture.draw_flush_first.Goals as goal

pub returns : goal.returns
returns c =
    flush_first_shown c.log.result c.args.count (sketch_of c.args.self.now) (sketch_of c.log.new.self) c.args.p _
    (step_entry c.args.step.now c.args.at) c.log.ensures
