use Rattle.std.proofs.Common.{◌<◌, ◌≤◌, List, ap, length, map, refl, rules}
use Rattle.om_picture.specs.Drawing.{held_of}
use Rattle.om_picture.specs.Held.{covered_by}
use Rattle.om_picture.specs.declared.history.Mark.{Mark}
use Rattle.om_picture.proofs.LaneLemmas.{first_beyond, lane_empty}
use Rattle.om_picture.proofs.history.History.next_covered.Goals as goal

pub returns-then-self-len : goal.returns-then-self-len
returns-then-self-len c =
    let past : length c.args.self.now.marks.items ≤ c.args.self.now.settled = search rules in (
      refl,
      ap (λ (l : List Mark). covered_by c.args.self.now.reached (map held_of l))
          (lane_empty c.args.self.now.marks.items c.args.self.now.settled past),
    )

pub returns-then-mark-self : goal.returns-then-mark-self
returns-then-mark-self c =
    let there : c.args.self.now.settled < length c.args.self.now.marks.items = search rules in (
      refl,
      first_beyond c.args.self.now.reached c.args.self.now.marks.items c.args.self.now.settled c.index-mark.result.now there
          c.index-mark.ensures c.if-mark-self.true,
    )
