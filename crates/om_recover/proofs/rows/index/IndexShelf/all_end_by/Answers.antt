use Rattle.std.proofs.Common.{IsTrue, subst}
use Rattle.om_recover.specs.Rows.{Rows}
use Rattle.om_recover.specs.steps.Climbing.{AllEndBy}
use Rattle.om_recover.proofs.rows.index.IndexShelf.all_end_by.Goals as goal

pub returns : goal.returns
returns c = subst (λ (rows : Rows). IsTrue c.all_end_in.result → AllEndBy rows c.args.state.now) c.self.view_is c.all_end_in.ensures
