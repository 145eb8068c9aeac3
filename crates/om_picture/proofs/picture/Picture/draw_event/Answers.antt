use Rattle.std.proofs.Common.{Option, ℕ, OnOk, subst}
use Rattle.om_picture.specs.Drawing.{sketch_of}
use Rattle.om_picture.specs.Fates.{step_row}
use Rattle.om_picture.specs.steps.Adding.{ShowsOn}
use Rattle.om_picture.proofs.picture.Picture.draw_event.Goals as goal

pub returns-in-Some : goal.returns-in-Some
returns-in-Some c =
    subst (λ (o : Option ℕ). OnOk c.draw_own.result (ShowsOn o (sketch_of c.args.self.now) (sketch_of c.draw_own.new.self)
    (step_row c.args.step.now c.args.at))) c.in-Some.ensures c.draw_own.ensures

pub returns-in-None : goal.returns-in-None
returns-in-None c =
    subst (λ (o : Option ℕ). OnOk c.draw_whole.result (ShowsOn o (sketch_of c.args.self.now) (sketch_of c.draw_whole.new.self)
    (step_row c.args.step.now c.args.at))) c.in-None.ensures c.draw_whole.ensures
