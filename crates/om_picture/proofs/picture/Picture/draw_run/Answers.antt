use Rattle.om_picture.specs.Drawing.{sketch_of}
use Rattle.om_picture.specs.Fates.{step_entry}
use Rattle.om_picture.proofs.ShowLemmas.{run_shown}
use Rattle.om_picture.proofs.picture.Picture.draw_run.Goals as goal

pub returns : goal.returns
returns c =
    run_shown c.wait.result (sketch_of c.args.self.now) (sketch_of c.end_program.new.self) (sketch_of c.wait.new.self) c.args.p c.args.at.x
    _ _ _ _ _ (step_entry c.args.step.now c.args.at) c.is_some.ensures c.requires.there c.end_program.ensures.turn c.wait.ensures
