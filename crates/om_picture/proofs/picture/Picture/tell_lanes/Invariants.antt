use Rattle.std.proofs.Common.{◌≡◌}
use Rattle.om_picture.specs.Drawing.{sketch_of}
use Rattle.om_picture.proofs.picture.Picture.tell_lanes.Given as goal

abbrev pub invariant-loop-p : goal.invariant-loop-p
invariant-loop-p l = sketch_of l.self ≡ sketch_of l.fn.self
