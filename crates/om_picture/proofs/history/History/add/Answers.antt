use Rattle.om_picture.proofs.LaneLemmas.{lane_more}
use Rattle.om_picture.proofs.history.History.add.Goals as goal

pub returns : goal.returns
returns c =
    lane_more c.extend_from_slice.result _ _ _ c.args.self.now.marks.items _ c.from_ref.result.now c.args.self.now.settled c.args.mark.now
    c.args.self.now.in_range c.from_ref.ensures.value c.extend_from_slice.ensures.items
