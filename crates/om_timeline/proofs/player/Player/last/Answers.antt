use Rattle.std.proofs.Common.{ℕ, ◌+◌, ◌-◌, refl, subst}
use Rattle.om_machine.specs.State.{State}
use Rattle.om_world.specs.declared.event.Answer.TheVariants.{Ran}
use Rattle.om_world.specs.declared.event.Event.TheVariants.{Run}
use Rattle.om_world.specs.Played.{Step}
use Rattle.om_world.specs.World.{WorldState}
use Rattle.om_timeline.specs.steps.Parts.{IsSilent}
use Rattle.om_timeline.proofs.Parting.{over_played, same_before, step_over}
use Rattle.om_timeline.proofs.player.Player.last.Goals as goal

pub returns-in-Ran : goal.returns-in-Ran
returns-in-Ran c =
    let part = c.args.part in
    let before : WorldState = part.before.value in
    let mid : WorldState = c.self.inside.world in
    let new : WorldState = c.play_one.new.world in
    let ran = c.in-Ran in
    let run : Step mid (Run part.process (part.fuel - part.done)) (Ran ran.steps ran.status ran.sent ran.made) new =
    subst (λ a. Step mid (Run part.process (part.fuel - part.done)) a new) ran.is c.in_ok-steps.ensures.played in
    let own : ℕ = c.requires.silent.0 in
    let n : ℕ = c.requires.silent.1 in
    let m : State = c.requires.silent.2 in
    let silent : IsSilent before part.process part.done own n m mid =
    subst (IsSilent before part.process part.done own n m) (same_before c.self.inside.part mid c.args.self.now c.self.view_is c.requires.begun) c.requires.silent.3 in
    record {
      whole = over_played c.self.inside.part mid new before c.args.self.now (Run part.process part.fuel) (Ran (part.done + ran.steps) ran.status ran.sent ran.made)
          c.self.view_is c.requires.begun
          (step_over before mid new own n part.process part.fuel part.done (part.fuel - part.done) ran.steps (part.done + ran.steps) ran.sent ran.made m ran.status silent run refl refl c.requires.few)
          c.play_one.ensures.known;
    }
