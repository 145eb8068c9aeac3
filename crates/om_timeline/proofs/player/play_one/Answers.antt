use Rattle.std.proofs.Common.{◌∷◌, [], rules, sym, ◌∙◌, subst}
use Rattle.om_world.specs.Played.{Played, Step}
use Rattle.om_world.specs.World.{IsKnown}
use Rattle.om_timeline.proofs.player.play_one.Goals as goal

pub returns-clause-played : goal.returns-clause-played
returns-clause-played c =
    let known : IsKnown c.play.new.self = search rules in
    let played : Played c.args.world.now (c.args.event ∷ []) (c.only.result ∷ []) c.play.new.self =
    subst (λ l. Played c.args.world.now (c.args.event ∷ []) l c.play.new.self) (sym c.deref.ensures.value ∙ c.only.ensures) (c.in_ok-answers.ensures.played known) in
    subst (Step c.args.world.now c.args.event c.only.result) (sym played.2) played.1
