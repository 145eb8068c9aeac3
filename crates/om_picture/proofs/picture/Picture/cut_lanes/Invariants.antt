use Rattle.std.proofs.Common.{true}
use Rattle.om_picture.specs.Drawing.{sketch_of}
use Rattle.om_picture.specs.steps.Adding.{SettlesBelow}
use Rattle.om_picture.proofs.picture.Picture.cut_lanes.Given as goal

abbrev pub invariant-loop-p : goal.invariant-loop-p
invariant-loop-p l = SettlesBelow true (sketch_of l.fn.self) (sketch_of l.self) l.p
