use Rattle.std.proofs.Common.{refl, sym}
use Rattle.om_recover.specs.declared.rows.trees.Logs.{Logs}
use Rattle.om_recover.proofs.PlaceLemmas.{apart_places}
use Rattle.om_recover.proofs.RunLemmas.{moved_to_run, same_logs}
use Rattle.om_recover.proofs.rows.laying.move_next.Goals as goal

pub push-requires : goal.push-requires
push-requires c = rw c.deref.ensures.value at (c.if-not-may_follow.ensures refl)

pub returns-in_default-clause-same : goal.returns-in_default-clause-same
returns-in_default-clause-same c =
    let after : Logs = record { runs = c.push.new.runs; others = c.args.logs.now.others } in
    same_logs c.args.logs.now after c.requires refl c.in_default.ensures.err

pub returns-clause-same : goal.returns-clause-same
returns-clause-same c =
    let after : Logs = record { runs = c.push.new.runs; others = c.remove.new.self } in
    let updates = c.remove.ensures.updates in
    moved_to_run c.args.logs.now after c.args.pid c.in_ok-next.next c.in_ok-vectors.vectors c.requires (sym c.in_ok-vectors.ensures) (rw c.of-lent.ensures at c.in-Ok.ensures.ok) c.remove.ensures.ordered updates.1
    (λ q y apart. updates.2 (q, y) (apart_places c.args.pid c.in_ok-next.next q y apart))
