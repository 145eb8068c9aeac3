use Rattle.std.proofs.Common.{◌≤◌, ◌<◌, length, refl, rules}
use Rattle.om_picture.proofs.LaneLemmas.{first_taken, past_lane}
use Rattle.om_picture.proofs.picture.Picture.next.Goals as goal

pub returns-then-p-len : goal.returns-then-p-len
returns-then-p-len c =
    let past : length c.args.self.now.histories.items ≤ c.args.p = search rules in
    (refl, past_lane c.args.self.now.histories.items c.args.p past)

pub returns : goal.returns
returns c =
    let within : c.args.p < length c.args.self.now.histories.items = search rules in
    first_taken c.next.result _ _ _ c.args.self.now.histories.items c.args.p c.index_mut-history.result.now c.next.new.self within
    c.index_mut-history.ensures.value c.next.ensures
