use Rattle.om_tables.proofs.DeleteLemmas.{performs_both}
use Rattle.om_tables.proofs.writing.insert_both.Goals as goal

pub returns-clause-performs : goal.returns-clause-performs
returns-clause-performs g c = performs_both _ _ _ _ _ c.in_ok-insert_receipts.ensures.performs c.in_ok-insert_new.ensures.performs
