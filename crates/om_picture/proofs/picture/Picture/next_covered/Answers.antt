use Rattle.std.proofs.Common.{◌<◌, ◌≤◌, length, refl, rules}
use Rattle.om_picture.proofs.LaneLemmas.{covered_taken, past_covered}
use Rattle.om_picture.proofs.picture.Picture.next_covered.Goals as goal

pub returns-then-p-len : goal.returns-then-p-len
returns-then-p-len c =
    let past : length c.args.self.now.histories.items ≤ c.args.p = search rules in
    (refl, past_covered c.args.self.now.histories.items c.args.p past)

pub returns : goal.returns
returns c =
    let within : c.args.p < length c.args.self.now.histories.items = search rules in
    covered_taken c.next_covered.result _ _ _ c.args.self.now.histories.items c.args.p c.index_mut-history.result.now
    c.next_covered.new.self within c.index_mut-history.ensures.value c.next_covered.ensures
