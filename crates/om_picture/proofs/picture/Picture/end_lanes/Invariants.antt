use Rattle.std.proofs.Common.{false}
use Rattle.om_picture.specs.Drawing.{sketch_of}
use Rattle.om_picture.specs.steps.Adding.{SettlesBelow}
use Rattle.om_picture.proofs.picture.Picture.end_lanes.Given as goal

abbrev pub invariant-loop-p : goal.invariant-loop-p
invariant-loop-p l = SettlesBelow false (sketch_of l.fn.self) (sketch_of l.self) l.p
