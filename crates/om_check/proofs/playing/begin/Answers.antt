use Rattle.std.proofs.Common.{length, map, refl, subst, sym, ap, ◌∙◌}
use Rattle.std.proofs.lemmas.List.{length-replicate}
use Rattle.om_process.specs.Images.{program_of}
use Rattle.std.specs.Prelude.{All}
use Rattle.std.proofs.lemmas.List.Elements.{All-map}
use Rattle.om_world.specs.World.{IsEmpty, IsKnown}
use Rattle.om_check.proofs.playing.begin.Goals as goal

pub returns-in-Ok-clause-way : goal.returns-in-Ok-clause-way
returns-in-Ok-clause-way c =
    let known : IsKnown c.in-Ok.world = (subst (λ held. All IsEmpty held) (sym c.in-Ok.ensures.origins) (All-map IsEmpty (λ s. s) c.in_ok-stores.stores.items c.in_ok-stores.ensures.empty), c.in-Ok.ensures.always (λ store. refl)) in
    record {
      these = c.in-Ok.ensures.started.programs;
      places = c.in-Ok.ensures.started.places;
      known = known;
      holds = c.in-Ok.ensures.holds known;
      managed = ap length c.in-Ok.ensures.started.manager.recovery ∙ length-replicate (length (map program_of c.args.images.now)) 0;
    }
