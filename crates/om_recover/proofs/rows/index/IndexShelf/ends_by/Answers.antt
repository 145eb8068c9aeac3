use Rattle.std.proofs.Common.{IsTrue, subst}
use Rattle.om_recover.specs.Rows.{Rows}
use Rattle.om_recover.specs.steps.Climbing.{EndsBy}
use Rattle.om_recover.proofs.rows.index.IndexShelf.ends_by.Goals as goal

pub returns : goal.returns
returns c = subst (λ (rows : Rows). IsTrue c.ends_in.result → EndsBy rows c.args.pid c.args.x) c.self.view_is c.ends_in.ensures
