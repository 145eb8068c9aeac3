use Rattle.om_process.specs.Stored.{the_process}
use Rattle.om_process.proofs.Exactly.{only_refused}
use Rattle.om_process.proofs.down.Down.roll_back.Goals as goal

pub returns-in-Err-clause-only : goal.returns-in-Err-clause-only
returns-in-Err-clause-only g c = λ known can.
    only_refused (the_process c.args.self.pid c.args.self.n) (g.S.Stable.content c.args.store.now) c.args.verdict.now.r c.in-Err.fault (c.in-Err.ensures.refused known) can
