use Rattle.std.proofs.Common.{◌≡◌, ◌∙◌, sym, length, arith, rules, false}
use Rattle.std.proofs.lemmas.List.{length-map}
use Rattle.om_picture.specs.Drawing.{lane_in, sketch_of}
use Rattle.om_picture.proofs.LaneLemmas.{below_next, below_start, settles_all}
use Rattle.om_picture.proofs.picture.Picture.end_lanes.Goals as goal

pub loop-p-init : goal.loop-p-init
loop-p-init c = below_start false (sketch_of c.args.self.now)

pub loop-p-preserved : goal.loop-p-preserved
loop-p-preserved c =
    below_next false (sketch_of c.args.self.now) (sketch_of c.loop-p.self) (sketch_of c.end_lane.new.self) c.loop-p.p c.loop-p.invariant
    c.in_ok-x.ensures

pub returns : goal.returns
returns c =
    let many : c.loop-p.p ≡ length c.args.self.now.histories.items = first_of (search rules, omega (arith, c.len-p-end.ensures)) in
    settles_all false (sketch_of c.args.self.now) (sketch_of c.loop-p.self) c.loop-p.p
    (many ∙ sym (length-map c.args.self.now.histories.items lane_in)) c.loop-p.invariant
