use Rattle.std.proofs.Common.{◌≤◌, ◌<◌, Bool, length, rules, subst, sym}
use Rattle.om_picture.specs.Drawing.{sketch_of}
use Rattle.om_picture.specs.Fates.{step_row}
use Rattle.om_sheet.specs.declared.sheet.Spot.{Spot}
use Rattle.om_picture.specs.steps.Adding.{Places}
use Rattle.om_picture.proofs.PlaceLemmas.{placed_here, shows_here, shows_past}
use Rattle.om_picture.proofs.picture.Picture.place_of_own.Goals as goal

pub returns-then-p-len-clause-x : goal.returns-then-p-len-clause-x
returns-then-p-len-clause-x c =
    let past : length c.args.self.now.histories.items ≤ c.args.p = search rules in
    let nowhere : Spot = record { x = 0; lane = 0 } in
    placed_here _ (sketch_of c.args.self.now) _
    (shows_past c.args.self.now.on (sketch_of c.args.self.now).edge (sketch_of c.args.self.now).drawn c.args.self.now.histories.items
    c.args.p (step_row c.args.step.now nowhere) past)
    c.here.ensures c.args.self.now.columns.there c.args.self.now.columns.inside

pub returns-clause-x : goal.returns-clause-x
returns-clause-x c =
    let within : c.args.p < length c.args.self.now.histories.items = search rules in
    let nowhere : Spot = record { x = 0; lane = 0 } in
    subst (λ (b : Bool). Places b c.in_ok-x.x (sketch_of c.args.self.now) (sketch_of c.next_place.new.self))
    (sym (shows_here c.args.self.now.on (sketch_of c.args.self.now).edge (sketch_of c.args.self.now).drawn c.args.self.now.histories.items
    c.args.p (step_row c.args.step.now nowhere) _ c.shown_of.result within c.index.ensures c.shown_of.ensures)) c.in_ok-x.ensures
