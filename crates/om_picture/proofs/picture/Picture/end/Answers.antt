use Rattle.std.proofs.Common.{ap}
use Rattle.std.specs.List.{flat_map}
use Rattle.om_picture.specs.Drawing.{sketch_of}
use Rattle.om_picture.specs.Marks.{shape_marks}
use Rattle.om_picture.proofs.DrawLemmas.{whole_drawn}
use Rattle.om_picture.proofs.picture.Picture.end.Goals as goal

pub returns : goal.returns
returns c =
    whole_drawn (sketch_of c.args.self) (sketch_of c.end_lanes.new.self) (flat_map shape_marks c.drawn.result.marks.items)
    c.in_ok-end_lanes.ensures
    (ap (λ (v : _). flat_map shape_marks v.items) c.drawn.ensures)
