use Rattle.om_picture.specs.Drawing.{sketch_of}
use Rattle.om_picture.specs.Fates.{step_entry}
use Rattle.om_picture.proofs.ShowLemmas.{receipt_shown}
use Rattle.om_picture.proofs.picture.Picture.draw_receipt.Goals as goal

pub returns : goal.returns
returns c =
    receipt_shown c.wait.result (sketch_of c.args.self.now) (sketch_of c.receive.new.self) (sketch_of c.wait.new.self) c.args.p c.args.at.x
    _ _ _ (step_entry c.args.step.now c.args.at) c.requires.there c.receive.ensures.turn c.wait.ensures
