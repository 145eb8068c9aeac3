use Rattle.std.proofs.Common.{subst}
use Rattle.om_manager.specs.Sound.{IsManager}
use Rattle.om_manager.proofs.ManagerLemmas.{whole}
use Rattle.om_manager.proofs.manager.Manager.join.Goals as goal

pub returns-then-index-n-clause-sound : goal.returns-then-index-n-clause-sound
returns-then-index-n-clause-sound c = subst IsManager c.self.view_is (whole _ _ _ _ _ _ _ _ c.self.invariant)

pub returns-then-round-self-clause-sound : goal.returns-then-round-self-clause-sound
returns-then-round-self-clause-sound c = subst IsManager c.self.view_is (whole _ _ _ _ _ _ _ _ c.self.invariant)

pub returns-in_default-clause-sound : goal.returns-in_default-clause-sound
returns-in_default-clause-sound c = subst IsManager c.self.view_is (whole _ _ _ _ _ _ _ _ c.self.invariant)

pub returns-then-ne-clause-sound : goal.returns-then-ne-clause-sound
returns-then-ne-clause-sound c = subst IsManager c.self.view_is (whole _ _ _ _ _ _ _ _ c.self.invariant)
