use Rattle.std.proofs.Common.{◌∷◌, [], sym, ap, ◌∙◌, subst}
use Rattle.om_world.specs.Played.{Played}
use Rattle.om_draw_command.proofs.reading.play_step.Goals as goal

pub returns-clause-played : goal.returns-clause-played
returns-clause-played g c = λ known.
    subst (λ l. Played c.args.world.now (c.args.event ∷ []) l c.play.new.self)
    (sym c.deref.ensures.value ∙ c.only-answer.ensures ∙ ap (λ a. a ∷ []) (sym c.step_of.ensures.answer))
    (c.in_ok-answers.ensures.played known)
