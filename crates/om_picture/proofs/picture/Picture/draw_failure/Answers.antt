use Rattle.std.proofs.Common.{refl}
use Rattle.om_picture.specs.Drawing.{sketch_of}
use Rattle.om_picture.specs.Fates.{step_entry}
use Rattle.om_sheet.specs.declared.shown.Shown.TheVariants as shows
use Rattle.om_picture.proofs.LaneLemmas.{lane_there}
use Rattle.om_picture.proofs.ShowLemmas.{sure_shown}
use Rattle.om_picture.proofs.picture.Picture.draw_failure.Goals as goal

pub returns : goal.returns
returns c =
    sure_shown c.shape.result (shows.Failure c.args.declared) _ (step_entry c.args.step.now c.args.at) _
    (sketch_of c.args.self.now) (sketch_of c.shape.new.self) c.args.p
    (lane_there c.args.self.now.histories.items c.args.p c.requires) (λ loose. refl) (λ fate. refl)
    (λ was. refl) (λ was. refl) refl c.shape.ensures
