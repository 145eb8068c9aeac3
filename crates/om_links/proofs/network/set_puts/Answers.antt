use Rattle.std.proofs.Common.{ap}
use Rattle.om_links.specs.declared.network.Ends.{Ends}
use Rattle.om_links.specs.steps.Rows.{lines_taken}
use Rattle.om_links.proofs.WireLemmas.{put_set, taken_same}
use Rattle.om_links.proofs.network.set_puts.Goals as goal

pub returns-clause-put : goal.returns-clause-put
returns-clause-put c = put_set c.args.ends.now.items c.args.from _

pub returns-clause-taken : goal.returns-clause-taken
returns-clause-taken c = taken_same c.args.ends.now.items c.args.from c.index_mut.result.now _ (ap (λ (e : Ends). lines_taken e.takes.items) c.index_mut.ensures.value)
