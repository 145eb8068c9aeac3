use Rattle.om_picture.specs.Drawing.{sketch_of}
use Rattle.om_picture.specs.Fates.{step_entry}
use Rattle.om_picture.proofs.LaneLemmas.{lane_there}
use Rattle.om_picture.proofs.ShowLemmas.{checkpoint_shown}
use Rattle.om_picture.proofs.picture.Picture.draw_checkpoint.Goals as goal

pub returns : goal.returns
returns c =
    checkpoint_shown c.wait.result (sketch_of c.args.self.now) (sketch_of c.wait.new.self) c.args.p c.args.at.x _
    (step_entry c.args.step.now c.args.at)
    (lane_there c.args.self.now.histories.items c.args.p c.requires.within) c.requires.there c.wait.ensures
