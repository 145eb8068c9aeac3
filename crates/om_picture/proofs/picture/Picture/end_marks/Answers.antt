use Rattle.om_picture.specs.Drawing.{sketch_of}
use Rattle.om_picture.proofs.LaneLemmas.{settles_fewer, settles_lane, settles_next, settles_start}
use Rattle.std.proofs.Common.{false}
use Rattle.om_picture.proofs.picture.Picture.end_marks.Goals as goal

pub loop-first-init : goal.loop-first-init
loop-first-init c = settles_start false (sketch_of c.args.self.now) c.args.p

pub loop-first-preserved : goal.loop-first-preserved
loop-first-preserved c =
    settles_next false (sketch_of c.args.self.now) (sketch_of c.loop-first.self) (sketch_of c.next.new.self) (sketch_of c.end_mark.new.self)
    c.args.p c.in-Some.first c.loop-first.invariant c.in-Some.ensures c.in_ok-end_mark.ensures

pub loop-first-smaller : goal.loop-first-smaller
loop-first-smaller c =
    settles_fewer (sketch_of c.loop-first.self) (sketch_of c.next.new.self) (sketch_of c.end_mark.new.self) c.args.p c.in-Some.first _
    c.in-Some.ensures c.in_ok-end_mark.ensures

pub returns : goal.returns
returns c =
    settles_lane false (sketch_of c.args.self.now) (sketch_of c.loop-first.self) (sketch_of c.next.new.self) c.args.p c.loop-first.invariant
    c.in_default.ensures
