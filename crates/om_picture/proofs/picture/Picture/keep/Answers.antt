use Rattle.std.proofs.Common.{◌<◌, [], ◌≡◌, ◌∙◌, sym, length, arith, rules}
use Rattle.std.proofs.lemmas.List.{length-map}
use Rattle.om_picture.specs.Drawing.{lane_in, sketch_of}
use Rattle.om_picture.specs.Fates.{step_row}
use Rattle.om_picture.proofs.LaneLemmas.{learns_all, learns_next, learns_start, still_there}
use Rattle.om_picture.proofs.picture.Picture.keep.Goals as goal

pub loop-p-init : goal.loop-p-init
loop-p-init c = learns_start (step_row c.args.step.now c.args.at) (sketch_of c.args.self.now)

pub keep_lane-requires : goal.keep_lane-requires
keep_lane-requires c =
    let below : c.loop-p.p < length c.args.self.now.histories.items = search rules in
    still_there c.args.self.now.histories.items c.loop-p.self.histories.items c.loop-p.p (c.loop-p.invariant.keeps []).count below

pub loop-p-preserved : goal.loop-p-preserved
loop-p-preserved c =
    learns_next (step_row c.args.step.now c.args.at) _ (sketch_of c.args.self.now) (sketch_of c.loop-p.self)
    (sketch_of c.keep_lane.new.self) (sketch_of c.release.new.self) c.loop-p.p c.loop-p.invariant c.in_ok-held.ensures.learns
    c.in_ok-held.ensures.freed c.in_ok-release.ensures

pub returns : goal.returns
returns c =
    let many : c.loop-p.p ≡ length c.args.self.now.histories.items = first_of (search rules, omega (arith, c.len-p-end.ensures)) in
    learns_all (step_row c.args.step.now c.args.at) (sketch_of c.args.self.now) (sketch_of c.loop-p.self) c.loop-p.p
    (many ∙ sym (length-map c.args.self.now.histories.items lane_in)) c.loop-p.invariant
