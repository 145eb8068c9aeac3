use Rattle.std.proofs.Common.{arith, ap, sym, subst, length}
use Rattle.om_recover.specs.declared.rows.trees.Run.{Run}
use Rattle.om_recover.specs.steps.Logs.{AreEmpty}
use Rattle.om_recover.proofs.RunPartLemmas.{empty_more}
use Rattle.om_recover.proofs.rows.first.no_runs.Goals as goal

pub loop-preserved : goal.loop-preserved
loop-preserved c =
    let run : Run = record { first = 0; logs = c.new.result } in
    record {
      empty = subst AreEmpty (sym c.push_reserved.ensures.items) (empty_more c.loop.runs.items run (ap length c.new.ensures) c.loop.invariant.empty);
      count = omega (arith, c.push_reserved.ensures.len, c.loop.invariant.count);
      room = omega (arith, c.push_reserved.ensures.capacity, c.loop.invariant.room);
    }
