use Rattle.std.proofs.Common.{length, take}
use Rattle.om_recover.specs.Offered.{AreOffered}
use Rattle.om_recover.specs.steps.Fresh.{AreAdded}
use Rattle.om_recover.proofs.adding.add_rows.Given as goal

abbrev pub invariant-loop-count : goal.invariant-loop-count
invariant-loop-count g l = record {
  answer : AreOffered (length l.state) l.fn.index (take l.count (g.L.RowList.rows l.rows)) l.index;
  added : AreAdded (length l.state) l.fn.index l.index l.fn._pid l.state l.fresh;
}
