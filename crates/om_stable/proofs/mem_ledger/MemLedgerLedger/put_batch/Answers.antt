use Rattle.std.proofs.Common.{◌≡◌, ◌∙◌, ap, refl, subst}
use Rattle.om_stable.specs.Batches.{Collides, HasTableRoom}
use Rattle.om_stable.specs.Content.{Content}
use Rattle.om_stable.specs.Ledger.{LedgerContent, LedgerStore, blank}
use Rattle.om_stable.proofs.LedgerLemmas.{collides_by_records}
use Rattle.om_stable.proofs.RecordLemmas.{taken_back}
use Rattle.om_stable.proofs.mem_ledger.MemLedgerLedger.put_batch.Goals as goal

pub returns-in-Err-clause-present : goal.returns-in-Err-clause-present
returns-in-Err-clause-present c = λ clean is.
    let same : c.self.inside.records ≡ c.args.self.now.content = ap (λ (s : LedgerStore). s.content) c.self.view_is ∙ c.in_ok-enter.ensures.records in
    collides_by_records c.args.batch.now c.args.self.now.content c.args.self.now.ledger
    (subst (λ (held : Content). Collides c.args.batch.now held blank) same (c.in-Err.ensures.present clean is))

pub returns-in-Err-clause-refused_in : goal.returns-in-Err-clause-refused_in
returns-in-Err-clause-refused_in c = λ clean.
    let b = c.args.batch.now in
    let held = c.args.self.now.ledger in
    let of_outputs = c.remove_run.ensures in
    let of_senders = c.remove_run-in-Err.ensures in
    let room : HasTableRoom b held = c.in_ok-enter.ensures.free in
    let is = ap (λ (s : LedgerStore). s.ledger) c.self.view_is ∙ c.in_ok-enter.ensures.put in
    let outputs : c.remove_run.new.self ≡ held.outputs =
    taken_back held.outputs c.self.inside.outputs c.remove_run.new.self b.outputs.first b.outputs.recs.now
    (ap (λ (s : LedgerContent). s.outputs) is) room.outputs (record { gone = of_outputs.gone; below = of_outputs.below; above = of_outputs.above }) in
    let senders : c.remove_run-in-Err.new.self ≡ held.senders =
    taken_back held.senders c.self.inside.senders c.remove_run-in-Err.new.self b.senders.first b.senders.recs.now
    (ap (λ (s : LedgerContent). s.senders) is) room.senders (record { gone = of_senders.gone; below = of_senders.below; above = of_senders.above }) in
    let about : c.self.inside.about ≡ held.about = ap (λ (s : LedgerContent). s.about) is in
    rw (outputs, senders, about) refl
