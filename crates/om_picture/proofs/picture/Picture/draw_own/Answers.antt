use Rattle.std.proofs.Common.{◌<◌, ◌≤◌, length, rules}
use Rattle.om_picture.specs.Drawing.{sketch_of}
use Rattle.om_picture.specs.Fates.{step_row}
use Rattle.om_picture.proofs.LaneLemmas.{shown_at, shown_past}
use Rattle.om_picture.proofs.picture.Picture.draw_own.Goals as goal

pub returns-then-p-len : goal.returns-then-p-len
returns-then-p-len c =
    let past : length c.args.self.now.histories.items ≤ c.args.p = search rules in
    shown_past _ _ _ c.args.self.now.histories.items c.args.p (step_row c.args.step.now c.args.at) past

pub returns : goal.returns
returns c =
    let within : c.args.p < length c.args.self.now.histories.items = search rules in
    shown_at c.draw_shown.result _ _ _ c.args.self.now.histories.items (sketch_of c.draw_shown.new.self) c.args.p (step_row c.args.step.now c.args.at)
    _ c.shown_of-shown.result within c.index.ensures c.shown_of-shown.ensures c.draw_shown.ensures
