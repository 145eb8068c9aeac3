use Rattle.std.proofs.Common.{◌≡◌, ℕ, ap, is_some}
use Rattle.om_picture.specs.Drawing.{sketch_of}
use Rattle.om_picture.specs.Fates.{step_entry}
use Rattle.om_sheet.specs.declared.sheet.Spot.{Spot}
use Rattle.om_picture.specs.steps.Adding.{lane_number}
use Rattle.om_picture.proofs.ShowLemmas.{freed_none, freed_shown, off_mark}
use Rattle.om_picture.proofs.picture.Picture.release.Goals as goal

pub returns-in_default : goal.returns-in_default
returns-in_default c =
    freed_none (sketch_of c.args.self.now) _ _ (step_entry c.args.step.now c.args.at) (ap is_some c.in_default.is)

pub returns-then-not-self : goal.returns-then-not-self
returns-then-not-self c = off_mark (sketch_of c.args.self.now) _ c.if-not-self.true

pub returns : goal.returns
returns c =
    let to : Spot = record { x = c.args.at.x; lane = c.lane_number.result } in
    let place : to ≡ record { x = c.args.at.x; lane = lane_number c.args.p } =
    ap (λ (n : ℕ). let s : Spot = record { x = c.args.at.x; lane = n } in s) c.lane_number.ensures in
    freed_shown c.add_shape.result (sketch_of c.args.self.now) (sketch_of c.add_shape.new.self) _ _ c.title_of-title.result c.args.step.now
    c.args.at to c.if-not-self.false (ap is_some c.in-Some.is) place c.title_of-title.ensures c.add_shape.ensures
