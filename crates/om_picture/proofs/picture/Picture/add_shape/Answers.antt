use Rattle.om_picture.proofs.LaneLemmas.{shape_added}
use Rattle.om_picture.proofs.picture.Picture.add_shape.Goals as goal

pub returns : goal.returns
returns c =
    shape_added c.extend_from_slice.result _ _ c.args.self.now.marks.items _ _ c.args.shape.now c.from_ref.result.now
    c.from_ref.ensures.value
    c.extend_from_slice.ensures.items
