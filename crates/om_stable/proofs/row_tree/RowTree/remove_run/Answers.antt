use Rattle.std.proofs.Common.{arith}
use Rattle.om_stable.proofs.RecordLemmas.{run_gone_more}
use Rattle.om_stable.proofs.row_tree.RowTree.remove_run.Goals as goal

pub loop-k-preserved : goal.loop-k-preserved
loop-k-preserved c =
    rw c.remove.ensures (run_gone_more c.args.self.now c.loop-k.self c.args.first c.loop-k.k _ (omega arith) c.loop-k.invariant)
