use Rattle.om_tables.proofs.InsertLemmas.{makes_both}
use Rattle.om_tables.proofs.creating.create_both.Goals as goal

pub returns-clause-makes : goal.returns-clause-makes
returns-clause-makes g c = makes_both _ _ _ _ _ c.in_ok-create_receipts.ensures.makes c.in_ok-create_checkpoints.ensures.clean c.in_ok-create_checkpoints.ensures.makes
