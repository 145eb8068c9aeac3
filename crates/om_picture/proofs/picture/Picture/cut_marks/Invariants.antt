use Rattle.std.proofs.Common.{length, true}
use Rattle.om_picture.specs.Drawing.{lane_of, sketch_of}
use Rattle.om_picture.specs.steps.Adding.{SettlesSome}
use Rattle.om_picture.proofs.picture.Picture.cut_marks.Given as goal

abbrev pub invariant-loop-first : goal.invariant-loop-first
invariant-loop-first l = SettlesSome true (sketch_of l.fn.self) (sketch_of l.self) l.p

abbrev pub decreases-loop-first : goal.decreases-loop-first
decreases-loop-first l = length (lane_of (sketch_of l.self) l.p).waiting
