use Rattle.std.proofs.Common.{◌≡◌, length}
use Rattle.om_picture.specs.Drawing.{lane_in}
use Rattle.om_picture.proofs.history.History.first_loose.Given as goal

abbrev pub invariant-loop-k : goal.invariant-loop-k
invariant-loop-k l = (lane_in l.self ≡ lane_in l.fn.self) × (l.k-end ≡ length l.self.marks.items)
