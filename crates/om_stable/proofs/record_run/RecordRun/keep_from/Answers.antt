use Rattle.om_stable.proofs.RunLemmas.{kept_from}
use Rattle.om_stable.proofs.record_run.RecordRun.keep_from.Goals as goal

pub returns : goal.returns
returns c = kept_from c.self.inside.first c.self.inside.records c.args.self.now c.self.view_is c.args.least c.len.result c.count_below-count.result c.drop_front.new.self
    c.len.ensures c.count_below-count.ensures c.drop_front.ensures
