use Rattle.std.proofs.Common.{subst}
use Rattle.om_manager.specs.Sound.{IsManager}
use Rattle.om_manager.proofs.ManagerLemmas.{whole}
use Rattle.om_manager.proofs.manager.Manager.released.Goals as goal

pub returns-clause-exact : goal.returns-clause-exact
returns-clause-exact c = (subst IsManager c.self.view_is (whole _ _ _ _ _ _ _ _ c.self.invariant)).exact
