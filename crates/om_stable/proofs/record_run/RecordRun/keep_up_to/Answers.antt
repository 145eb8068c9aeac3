use Rattle.om_stable.proofs.RunLemmas.{kept_up_to}
use Rattle.om_stable.proofs.record_run.RecordRun.keep_up_to.Goals as goal

pub returns : goal.returns
returns c = kept_up_to c.self.inside.first c.self.inside.records c.args.self.now c.self.view_is c.args.r c.from.result c.len.result c.count_below-count.result c.keep_front.new.self
    c.from.ensures c.len.ensures c.count_below-count.ensures c.keep_front.ensures
