use Rattle.om_stable.specs.Content.{between}
use Rattle.om_tables.proofs.ReadLemmas.{shown_back}
use Rattle.om_tables.proofs.reading.receipts.Goals as goal

pub returns-clause-found : goal.returns-clause-found
returns-clause-found g c clean had holds =
    shown_back c.records_in.result c.deref.result.now c.in_ok-rows.rows.items (between had.receipts c.args.after c.args.to) c.records_in.ensures c.deref.ensures.value (c.in_ok-rows.ensures.found clean had holds)
