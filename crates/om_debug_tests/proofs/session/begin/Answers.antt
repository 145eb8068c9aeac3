use Rattle.std.proofs.Common.{refl, subst, sym}
use Rattle.std.specs.Prelude.{All}
use Rattle.std.proofs.lemmas.List.Elements.{All-map}
use Rattle.om_world.specs.World.{IsEmpty}
use Rattle.om_debug_tests.proofs.session.begin.Goals as goal

pub returns-in-Ok-clause-known : goal.returns-in-Ok-clause-known
returns-in-Ok-clause-known c = (
  subst (λ held. All IsEmpty held) (sym c.in-Ok.ensures.origins) (All-map IsEmpty (λ s. s) c.in_ok-stores.stores.items c.in_ok-stores.ensures.empty),
  c.in-Ok.ensures.always (λ store. refl),
)

pub returns-in-Ok-clause-holds : goal.returns-in-Ok-clause-holds
returns-in-Ok-clause-holds c = c.in-Ok.ensures.holds (returns-in-Ok-clause-known c)
