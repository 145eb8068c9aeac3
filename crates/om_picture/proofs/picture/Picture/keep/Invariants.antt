use Rattle.om_picture.specs.Drawing.{sketch_of}
use Rattle.om_picture.specs.Fates.{step_row}
use Rattle.om_picture.specs.steps.Adding.{LearnsBelow}
use Rattle.om_picture.proofs.picture.Picture.keep.Given as goal

abbrev pub invariant-loop-p : goal.invariant-loop-p
invariant-loop-p l = LearnsBelow (step_row l.step l.at) (sketch_of l.fn.self) (sketch_of l.self) l.p
