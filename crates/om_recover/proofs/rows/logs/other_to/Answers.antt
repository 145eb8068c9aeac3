use Rattle.std.proofs.Common.{sym, subst}
use Rattle.om_recover.specs.steps.Nearest.{IsNearestTo}
use Rattle.om_recover.specs.declared.rows.trees.Vectors.{Vectors}
use Rattle.om_recover.proofs.rows.logs.other_to.Goals as goal

pub returns-in-Some : goal.returns-in-Some
returns-in-Some c = subst (λ (vectors : Vectors). IsNearestTo c.args.others.now.entries c.args.pid c.args.to c.in-Some.x vectors) (sym c.of.ensures) c.in-Some.ensures
