use Rattle.std.proofs.Common.{◌≡◌, ap}
use Rattle.om_stable.proofs.RecordLemmas.{taken_back}
use Rattle.om_stable.proofs.mem_ledger.MemLedger.enter.Goals as goal

pub returns-in-Err-clause-refused : goal.returns-in-Err-clause-refused
returns-in-Err-clause-refused c =
    let e = c.remove_run.ensures in
    let back : c.remove_run.new.self ≡ c.self.inside.outputs =
    taken_back c.self.inside.outputs _ c.remove_run.new.self c.args.batch.now.outputs.first c.args.batch.now.outputs.recs.now c.in_ok-put_rows.ensures.put c.in_ok-put_rows.ensures.free
    (record { gone = e.gone; below = e.below; above = e.above }) in
    rw (back, c.in-Err.ensures.refused) (ap (λ s. s.ledger) c.self.view_is)
