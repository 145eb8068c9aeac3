use Rattle.std.proofs.Common.{◌<◌, length, arith, rules}
use Rattle.om_manager.proofs.LogLemmas.{raised_one}
use Rattle.om_manager.proofs.output_log.OutputLog.raise.Goals as goal

pub loop-self-preserved : goal.loop-self-preserved
loop-self-preserved c =
    let inside : c.loop-self.self-inside.released < length c.loop-self.self-inside.items.items = search rules in
    record {
      items = c.loop-self.invariant.items;
      limit = c.loop-self.invariant.limit;
      among = omega arith;
      out = raised_one _ _ _ c.index.result.now c.loop-self.invariant.out inside c.index.ensures c.if-index-limit.true;
    }
