use Rattle.std.proofs.Common.{◌≢◌, refl, rules}
use Rattle.om_format.specs.CheckpointViews.{checkpoint_record}
use Rattle.om_process.proofs.StoredLemmas.{checkpoint_damaged, names_another}
use Rattle.om_stored_timeline.proofs.reading.checkpoint_at.Goals as goal

pub returns-in-Err-clause-refused : goal.returns-in-Err-clause-refused
returns-in-Err-clause-refused c = checkpoint_damaged c.args.c c.args.bytes.now c.damaged.result c.in-Err.error c.damaged.ensures c.in-Err.ensures.only

pub returns-else-checkpoint-c-clause-refused : goal.returns-else-checkpoint-c-clause-refused
returns-else-checkpoint-c-clause-refused c =
    let other : c.in-Ok.checkpoint.head.interval ≢ c.args.c = search rules in
    (refl, λ r spelled at. names_another c.args.c (checkpoint_record c.in-Ok.checkpoint) r _ _ refl refl (c.in-Ok.ensures.only spelled.0 r spelled.1) other at)
