use Rattle.std.proofs.Common.{◌≡◌, length}
use Rattle.om_report.specs.Released.{AreReleasedBy}
use Rattle.om_report.proofs.report.released_by.Given as goal

abbrev pub invariant-loop-p : goal.invariant-loop-p
invariant-loop-p l = (length l.released.items ≡ l.p) × AreReleasedBy l.manager l.released.items
