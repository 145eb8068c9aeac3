use Rattle.std.proofs.Common.{sym, subst}
use Rattle.om_picture.specs.Drawing.{sketch_of}
use Rattle.om_picture.specs.Fates.{step_entry}
use Rattle.om_sheet.specs.declared.shown.Shown.{Shown}
use Rattle.om_picture.specs.steps.Adding.{Shows}
use Rattle.om_picture.proofs.LaneLemmas.{lane_there}
use Rattle.om_picture.proofs.ShowLemmas.{nothing_shown}
use Rattle.om_picture.proofs.picture.Picture.draw_shown.Goals as goal

pub returns-in-Nothing : goal.returns-in-Nothing
returns-in-Nothing c =
    subst (λ (s : Shown). Shows (sketch_of c.args.self.now) (sketch_of c.args.self.now) c.args.p s c.args.step.now.fresh
    (step_entry c.args.step.now c.args.at)) (sym c.in-Nothing.is)
    (nothing_shown (sketch_of c.args.self.now) c.args.p _ (step_entry c.args.step.now c.args.at)
    (lane_there c.args.self.now.histories.items c.args.p c.requires.within))
