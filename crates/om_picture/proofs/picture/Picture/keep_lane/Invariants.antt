use Rattle.std.proofs.Common.{is_some, length}
use Rattle.om_picture.specs.Drawing.{lane_of, sketch_of}
use Rattle.om_picture.specs.Fates.{step_row}
use Rattle.om_picture.specs.steps.Adding.{Learning}
use Rattle.om_picture.proofs.picture.Picture.keep_lane.Given as goal

abbrev pub invariant-loop-mark : goal.invariant-loop-mark
invariant-loop-mark l = Learning (step_row l.step l.at) (is_some l.held) (sketch_of l.fn.self) (sketch_of l.self) l.p

abbrev pub decreases-loop-mark : goal.decreases-loop-mark
decreases-loop-mark l = length (lane_of (sketch_of l.self) l.p).waiting
