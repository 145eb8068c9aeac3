use Rattle.std.proofs.Common.{subst}
use Rattle.om_recover.specs.Rows.{Rows}
use Rattle.om_recover.specs.steps.Climbing.{TellsLeast}
use Rattle.om_recover.proofs.rows.index.IndexShelf.least_stable.Goals as goal

pub returns : goal.returns
returns c = subst (λ (rows : Rows). TellsLeast rows c.args.pid c.args.from c.least_stable_of.result) c.self.view_is c.least_stable_of.ensures
