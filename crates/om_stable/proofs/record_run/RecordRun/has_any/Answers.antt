use Rattle.om_stable.proofs.RunLemmas.{taken_where_they_meet, free_where_they_are_apart}
use Rattle.om_stable.proofs.record_run.RecordRun.has_any.Goals as goal

pub returns-clause-taken : goal.returns-clause-taken
returns-clause-taken c = taken_where_they_meet c.self.inside.first c.self.inside.records c.args.self.now c.self.view_is c.args.first c.args.count
    c.from.result c.from-2.result c.len.result c.max-low.result c.min.result c.from.ensures c.from-2.ensures c.len.ensures c.max-low.ensures c.min.ensures

pub returns-clause-free : goal.returns-clause-free
returns-clause-free c = free_where_they_are_apart c.self.inside.first c.self.inside.records c.args.self.now c.self.view_is c.args.first c.args.count
    c.from.result c.from-2.result c.len.result c.max-low.result c.min.result c.from.ensures c.from-2.ensures c.len.ensures c.max-low.ensures c.min.ensures
