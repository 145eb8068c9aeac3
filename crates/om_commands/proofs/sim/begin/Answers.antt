use Rattle.std.proofs.Common.{map, refl, subst, sym}
use Rattle.std.specs.Prelude.{All}
use Rattle.om_process.specs.Images.{program_of}
use Rattle.om_world.specs.World.{IsEmpty, IsKnown}
use Rattle.om_commands.proofs.SimLemmas.{all_same, only_memory}
use Rattle.om_commands.proofs.sim.begin.Goals as goal

pub memory-requires : goal.memory-requires
memory-requires c = only_memory (map program_of c.args.images.now) c.in_ok-stores.stores.items c.in-Err.fault c.requires.sizes c.in_ok-stores.ensures.empty c.in-Err.ensures.refused

pub returns-in-Ok-clause-begun : goal.returns-in-Ok-clause-begun
returns-in-Ok-clause-begun c =
    let known : IsKnown c.in-Ok.world = (subst (λ held. All IsEmpty held) (sym c.in-Ok.ensures.origins) (all_same c.in_ok-stores.stores.items c.in_ok-stores.ensures.empty), c.in-Ok.ensures.always (λ store. refl)) in
    (c.in-Ok.ensures.started, known, c.in-Ok.ensures.holds known)
