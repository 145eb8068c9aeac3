use Rattle.std.proofs.Common.{◌∙◌, ap}
use Rattle.om_stable.specs.Content.{Content}
use Rattle.om_stable.specs.Ledger.{blank}
use Rattle.om_stable.specs.steps.TakenBack.{without_new}
use Rattle.om_stable.proofs.TakenBackLemmas.{checkpoint_gone, written_at_last, room_for_both, collides_by_receipts}
use Rattle.om_stable.proofs.mem_stable.MemStableLedger.put_batch.Goals as goal

pub returns-in-Err-clause-refused : goal.returns-in-Err-clause-refused
returns-in-Err-clause-refused c = λ clean.
    let same = c.in-Err.ensures.refused clean in
    checkpoint_gone c.args.self.now c.put_new.new.self c.take_back.new.self c.args.batch.now.checkpoint
    c.in_ok-put_new.ensures.put c.in_ok-put_new.ensures.free
    (c.take_back.ensures.receipts ∙ ap (λ (s : Content). s.receipts) same) (c.take_back.ensures.checkpoints ∙ ap (λ (s : Content). without_new s.checkpoints c.args.batch.now.checkpoint) same)

pub returns-in-Err-clause-present : goal.returns-in-Err-clause-present
returns-in-Err-clause-present c = λ clean is.
    collides_by_receipts c.args.batch.now c.args.self.now c.put_new.new.self c.in_ok-put_new.ensures.put blank (c.in-Err.ensures.present clean is)

pub returns-clause-put : goal.returns-clause-put
returns-clause-put c = λ clean.
    written_at_last c.args.batch.now c.args.self.now c.put_new.new.self c.in_ok-put_new.ensures.put c.put_receipts.new.self c.prune_to.new.self
    (c.in_default.ensures.put clean) c.prune_to.ensures

pub returns-clause-free : goal.returns-clause-free
returns-clause-free c = λ clean.
    room_for_both c.args.batch.now c.args.self.now c.put_new.new.self c.in_ok-put_new.ensures.put (c.in_default.ensures.free clean) c.in_ok-put_new.ensures.free
