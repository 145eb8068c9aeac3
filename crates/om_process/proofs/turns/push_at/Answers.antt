use Rattle.std.proofs.lemmas.Result.{on_ok_weaker}
use Rattle.om_process.proofs.QueueLemmas.{emitted_at}
use Rattle.om_process.proofs.turns.push_at.Goals as goal

pub returns-clause-ok : goal.returns-clause-ok
returns-clause-ok c =
    on_ok_weaker c.push.result (emitted_at c.args.outbox.now.items c.args.place c.index_mut-messages.result.now c.push.new.self _ c.requires.place c.index_mut-messages.ensures.value) c.push.ensures.ok
