use Rattle.om_picture.specs.Drawing.{sketch_of}
use Rattle.om_picture.specs.Fates.{step_entry}
use Rattle.om_picture.proofs.ShowLemmas.{logged_none, logged_some}
use Rattle.om_picture.proofs.picture.Picture.log.Goals as goal

pub returns-in-Some : goal.returns-in-Some
returns-in-Some c =
    logged_some c.shape.result c.args.many (sketch_of c.args.self.now) (sketch_of c.store.new.self) (sketch_of c.shape.new.self) c.args.p
    (step_entry c.args.step.now c.args.at) c.in-Some.ensures.turn c.in-Some.ensures.loose c.shape.ensures

pub returns-in-None : goal.returns-in-None
returns-in-None c =
    logged_none c.args.many (sketch_of c.args.self.now) (sketch_of c.store.new.self) c.args.p (step_entry c.args.step.now c.args.at)
    c.in-None.ensures.turn c.in-None.ensures.loose
