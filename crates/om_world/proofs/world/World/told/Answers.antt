use Rattle.std.proofs.Common.{◌≡◌, subst, true}
use Rattle.std.specs.Prelude.{IsTrue}
use Rattle.om_world.specs.Holds.{Holds}
use Rattle.om_world.specs.World.{WorldState, IsKnown, all_clean}
use Rattle.om_world.specs.steps.Members.{health_in, health_of}
use Rattle.om_world.proofs.Beginning.{clean_from}
use Rattle.om_world.proofs.Holding.{world_holds}
use Rattle.om_world.proofs.world.World.told.Goals as goal

pub returns-clause-holds : goal.returns-clause-holds
returns-clause-holds g c = subst (λ (w : WorldState). IsKnown w → Holds w) c.self.view_is (world_holds _ _ _ c.self.invariant)

pub returns-clause-always : goal.returns-clause-always
returns-clause-always g c =
    subst (λ (w : WorldState). ((store : _) → IsTrue (g.S.Stable.is_clean store)) → all_clean w.health ≡ true) c.self.view_is
    (λ always. clean_from (health_in (health_of g.S.Stable.is_clean g.S.Stable.failed)) c.self.inside.members.items (λ i m at. always m.store))
