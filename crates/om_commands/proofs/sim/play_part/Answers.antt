use Rattle.std.proofs.Common.{refl, string_bytes, subst, sym, ap, ◌∙◌}
use Rattle.std.specs.Prelude.{All}
use Rattle.om_world.specs.World.{IsEmpty, IsKnown}
use Rattle.om_commands.proofs.PartLemmas.{part_played}
use Rattle.om_commands.proofs.sim.play_part.Goals as goal

pub returns-clause-told : goal.returns-clause-told
returns-clause-told c =
    let known : IsKnown c.play.new.self = (subst (λ held. All IsEmpty held) (sym c.play.ensures.origins) c.requires.known.0, c.play.ensures.always (λ store. refl)) in
    part_played c.args.world.now c.play.new.self c.args.events.now c.in_ok-answers.answers.items c.deref.result.now c.recovery.result
    (string_bytes c.args.text.now) (string_bytes c.push_answers.new.text) c.push_answers.result (c.in_ok-answers.ensures.played known)
    (c.in_ok-answers.ensures.faultless (λ store. refl) known) c.requires.part c.deref.ensures.value
    (c.recovery.ensures.recovery ∙ ap (λ manager. manager.recovery) c.manager.ensures) c.push_answers.ensures
