use Rattle.std.proofs.Common.{◌≡◌, true, sym, subst}
use Rattle.om_world.specs.declared.event.Answer.{Answer}
use Rattle.om_world.specs.declared.event.Event.TheVariants.{Run}
use Rattle.om_world.specs.Played.{Step}
use Rattle.om_world.specs.World.{WorldState}
use Rattle.om_timeline.specs.steps.Parts.{IsAhead, IsSilent, UsesUp}
use Rattle.om_timeline.proofs.Parting.{first_part, same_before, step_short, whole_played}
use Rattle.om_timeline.proofs.player.Player.first.Goals as goal

pub returns-then-not-uses_up-clause-whole : goal.returns-then-not-uses_up-clause-whole
returns-then-not-uses_up-clause-whole c =
    let old : WorldState = c.self.inside.world in
    let new : WorldState = c.play_one.new.world in
    let answer : Answer = c.in_ok-answer.answer in
    let run : Step old (Run c.args.process c.args.turns) answer new = c.in_ok-answer.ensures.played in
    let short : UsesUp c.args.turns answer → ⊥ = λ up. let all : c.uses_up.result ≡ true = c.uses_up.ensures.1 up in cc in
    whole_played c.self.inside.part old new c.args.self.now (Run c.args.process c.args.fuel) answer c.self.view_is c.requires.begun
    (step_short old new c.args.process c.args.turns c.args.fuel answer c.requires.within short run) c.play_one.ensures.known

pub invariant_of-self-2 : goal.invariant_of-self-2
invariant_of-self-2 c =
    let old : WorldState = c.self.inside.world in
    let new : WorldState = c.play_one.new.world in
    let answer : Answer = c.in_ok-answer.answer in
    let run : Step old (Run c.args.process c.args.turns) answer new = c.in_ok-answer.ensures.played in
    let up : c.uses_up.result ≡ true = cc in
    let ahead : IsAhead old c.args.process c.args.turns c.args.ahead =
    subst (λ w. IsAhead w c.args.process c.args.turns c.args.ahead) (same_before c.self.inside.part old c.args.self.now c.self.view_is c.requires.begun) c.requires.ahead in
    let silent : IsSilent old c.args.process c.args.turns c.args.ahead.own c.args.ahead.n c.args.ahead.machine new =
    first_part old new c.args.process c.args.turns c.args.ahead answer ahead (c.uses_up.ensures.0 up) run in
    (c.play_one.ensures.known, c.requires.within, subst (λ w. IsSilent w c.args.process c.args.turns c.args.ahead.own c.args.ahead.n c.args.ahead.machine new) (sym c.of-before.ensures) silent)
