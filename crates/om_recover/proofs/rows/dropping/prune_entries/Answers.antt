use Rattle.std.proofs.Common.{arith}
use Rattle.om_recover.proofs.DroppingLemmas.{pruned_start, pruned_step, pruned_ends}
use Rattle.om_recover.proofs.rows.dropping.prune_entries.Goals as goal

pub loop-p-init : goal.loop-p-init
loop-p-init g c = record { pruned = pruned_start _ _ c.requires }

pub loop-p-preserved : goal.loop-p-preserved
loop-p-preserved g c = record {
  pruned = pruned_step _ _ _ c.args.from.now c.loop-p.p
      (rw (c.get.ensures, c.at-pid.ensures) at c.drop_below.ensures) c.loop-p.invariant.pruned;
}

pub returns : goal.returns
returns g c = pruned_ends _ _ _ c.loop-p.p (omega (arith, c.loop-p-test.false, c.n-p-end.ensures.places)) c.loop-p.invariant.pruned
